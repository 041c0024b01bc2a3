-- Laws. A record as the record of one kind is that record again.
use Rattle.std.specs.Prelude.{◌≡◌, refl, Option, Some, unwrap_or, option_map}
use Rattle.std.proofs.Math.Path.{sym, ap}
use Rattle.std.proofs.Common.{◌∙◌}
use Rattle.record.specs.AsKind.{by_kind, as_subframe1, as_subframe2, as_subframe3}
use Rattle.record.specs.declared.record.Subframe1.{Subframe1}
use Rattle.record.specs.declared.record.Subframe2.{Subframe2}
use Rattle.record.specs.declared.record.Subframe3.{Subframe3}
use Rattle.record.specs.declared.record.Record.{Record}
use Rattle.record.specs.declared.record.Record.TheVariants as R

-- what a record is as one of a kind, put back
back : (x : Record)
    → (unwrap_or (option_map R.Subframe1 (as_subframe1 x)) x ≡ x) × (unwrap_or (option_map R.Subframe2 (as_subframe2 x)) x ≡ x) × (unwrap_or (option_map R.Subframe3 (as_subframe3 x)) x ≡ x)
unfolding by_kind as_subframe1 as_subframe2 as_subframe3
back (R.Subframe1 r) = (refl, refl, refl)
back (R.Subframe2 r) = (refl, refl, refl)
back (R.Subframe3 r) = (refl, refl, refl)
back (R.Almanac r) = (refl, refl, refl)
back (R.Utc r) = (refl, refl, refl)
back (R.Other r) = (refl, refl, refl)

module _ (x : Record) where
  pub as_1 : (r : Subframe1) → as_subframe1 x ≡ Some r → x ≡ R.Subframe1 r
  as_1 r e = sym (back x).0 ∙ ap (λ (o : Option Subframe1). unwrap_or (option_map R.Subframe1 o) x) e

  pub as_2 : (r : Subframe2) → as_subframe2 x ≡ Some r → x ≡ R.Subframe2 r
  as_2 r e = sym (back x).1 ∙ ap (λ (o : Option Subframe2). unwrap_or (option_map R.Subframe2 o) x) e

  pub as_3 : (r : Subframe3) → as_subframe3 x ≡ Some r → x ≡ R.Subframe3 r
  as_3 r e = sym (back x).2 ∙ ap (λ (o : Option Subframe3). unwrap_or (option_map R.Subframe3 o) x) e
