-- Definitions. The clock terms of a subframe 1 (document 01, 'Fields of words 3 to 10').
use Rattle.std.specs.Prelude.{not}
use Rattle.answer.specs.Answer.{Answer, accepted, refuse_if}
use Rattle.doubles.specs.Scaled.{scaled}
use Rattle.record.specs.Writable.{writable}
use Rattle.record.specs.declared.record.Subframe1.{Subframe1}
use Rattle.record.specs.declared.record.Record.TheVariants as R
use Rattle.clock.specs.declared.terms.ClockTerms.{ClockTerms}

-- TGD 2^-31, af0 2^-31, af1 2^-43, af2 2^-55
unfoldable pub terms_of : Subframe1 → ClockTerms
terms_of r = record {
  tgd = scaled r.tgd 31;
  af0 = scaled r.af0 31;
  af1 = scaled r.af1 43;
  af2 = scaled r.af2 55;
}

-- number 11, then the terms
unfoldable pub clock_terms : Subframe1 → Answer ClockTerms
clock_terms r = refuse_if (not (writable (R.Subframe1 r))) 11 0 (accepted (terms_of r))
