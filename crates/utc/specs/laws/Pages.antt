-- Laws. The values of a UTC page that the writer takes.
use Rattle.std.specs.Prelude.{◌≡◌, true, ◌<◌}
use Rattle.std.proofs.Common.{ltb-true}
use Rattle.layout.specs.Field.{within}
use Rattle.layout.proofs.laws.Layout.{each_within}
use Rattle.record.specs.Fields.{utc_fields}
use Rattle.record.specs.Record.{utc_values}
use Rattle.record.proofs.laws.Taken.{taken}
use Rattle.record.specs.Writable.{writable}
use Rattle.record.specs.declared.record.UtcPage.{UtcPage}
use Rattle.record.specs.declared.record.Record.TheVariants as R

pub record Bytes (page : UtcPage) : Type 0 where
  pub wnlsf_lt : page.wnlsf < 256
  pub dn_lt : page.dn < 256

pub page_bytes : (page : UtcPage) → writable (R.Utc page) ≡ true → Bytes page
unfolding within
page_bytes page h =
    let at-wnlsf = (each_within utc_fields (utc_values page) (taken (R.Utc page) h).fields_within).1.1.1.1.1.1.1.1.1.1.1.1.1.1.1 in
    record { wnlsf_lt = ltb-true page.wnlsf 256 at-wnlsf.0; dn_lt = ltb-true page.dn 256 at-wnlsf.1.0 }
