-- The table of a kind's widths says what its fields say.
use Rattle.std.proofs.Common.{◌≡◌, ap, ◌∙◌, List, ℕ}
use Rattle.layout.specs.Table as Table
use Rattle.record.specs.Fields.{fields_of}
use Rattle.record.specs.Record.{kind_of, field_values}
use Rattle.record.proofs.laws.Sound.{fields_sound, table-most, table-within}
use Rattle.record.specs.declared.kind.Kind.{Kind}
use Rattle.writable.proofs.fields_within.Goals as goal

table : {ws : List ℕ} {found kind : Kind} → ws ≡ Table.widths 19 (fields_of found) → found ≡ kind → ws ≡ Table.widths 19 (fields_of kind)
table e is = e ∙ ap (λ (k : Kind). Table.widths 19 (fields_of k)) is

pub all_fit-requires : goal.all_fit-requires
all_fit-requires c =
    let k = kind_of c.args.r in
    table-most 190 (fields_of k) (fields_sound k) c.widths.result (table c.widths.ensures c.kind_of.ensures)

pub returns : goal.returns
returns c =
    let k = kind_of c.args.r in
    c.all_fit.ensures
    ∙ table-within 190 (fields_of k) (fields_sound k) c.widths.result (table c.widths.ensures c.kind_of.ensures) (field_values c.args.r) c.field_numbers.result c.field_numbers.ensures
