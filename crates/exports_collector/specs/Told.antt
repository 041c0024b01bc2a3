-- Definitions. The values of the records of a set.
use Rattle.std.specs.Prelude.{List, ℤ}
use Rattle.orbit_set.specs.declared.set.OrbitSet.{OrbitSet}
use Rattle.values.specs.Values.{values_of_subframe1, values_of_subframe2, values_of_subframe3}

unfoldable pub set_subframe1 : OrbitSet → List ℤ
set_subframe1 o = values_of_subframe1 o.subframe1

unfoldable pub set_subframe2 : OrbitSet → List ℤ
set_subframe2 o = values_of_subframe2 o.subframe2

unfoldable pub set_subframe3 : OrbitSet → List ℤ
set_subframe3 o = values_of_subframe3 o.subframe3
