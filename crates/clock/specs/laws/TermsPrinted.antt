-- Laws. Each clock term has the scale that document 000's Table 20-I prints for its parameter.
use Rattle.std.specs.Prelude.{◌≡◌, refl}
use Rattle.clock.specs.Terms as Terms
use Rattle.doubles.specs.Scaled.{scaled}
use Rattle.record.specs.declared.record.Subframe1.{Subframe1}
use Rattle.tables.specs.Tables.{table20_I}
use Rattle.tables.specs.Agreement.{named, places_of}

pub terms_printed : (r : Subframe1)
    → Terms.terms_of r ≡ record { tgd = scaled r.tgd (places_of table20_I "T_GD"); af0 = scaled r.af0 (places_of table20_I "a_f0"); af1 = scaled r.af1 (places_of table20_I "a_f1"); af2 = scaled r.af2 (places_of table20_I "a_f2") }
unfolding Terms.terms_of table20_I named
terms_printed r = refl
