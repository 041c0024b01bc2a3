-- Laws. The field lists agree with every row of document 000's tables, and every field has its row or is named as one that no table has.
use Rattle.std.specs.Prelude.{◌≡◌, refl, ℕ, ◌<◌, ◌+◌, ◌*◌, ◌%◌, T, length}
use Rattle.finite.specs.Every.{every_below}
use Rattle.finite.specs.laws.Every.{every_below_at}
use Rattle.integers.specs.Whole.{eq_z}
use Rattle.layout.specs.Layout.{size}
use Rattle.record.specs.Fields.{fields_of}
use Rattle.record.specs.Record.{joined}
use Rattle.record.specs.declared.kind.Kind.{Kind}
use Rattle.record.specs.declared.kind.Kind.TheVariants.{Subframe1, Subframe2, Subframe3, Almanac, Utc, Other}
use Rattle.tables.specs.Tables.{table20_I, table20_III, aodo, table20_VI, table20_IX, table20_X}
use Rattle.tables.specs.Listed.{subframe1_entries, subframe2_entries, subframe3_entries, almanac_entries, utc_entries, other_entries, entries_of, rows_of}
use Rattle.tables.specs.Agreement.{row_at, entry_at, read_as, same_field, all_unsigned, held_in, as_printed, row_holds, named, row_of, one_with, entry_holds}

rows_tested : (k : Kind) → T (every_below (length (rows_of k)) (λ i. row_holds k (row_at k i)))
unfolding every_below table20_I table20_III aodo table20_VI table20_IX table20_X subframe1_entries subframe2_entries subframe3_entries almanac_entries utc_entries other_entries row_holds held_in as_printed all_unsigned same_field size
rows_tested Subframe1 = tt
rows_tested Subframe2 = tt
rows_tested Subframe3 = tt
rows_tested Almanac = tt
rows_tested Utc = tt
rows_tested Other = tt

-- each row's parameter stands in fields of the width and sign that it prints
pub rows_hold : (k : Kind) (i : ℕ) → i < length (rows_of k) → T (row_holds k (row_at k i))
rows_hold k = every_below_at (length (rows_of k)) (λ i. row_holds k (row_at k i)) (rows_tested k)

-- each field has an entry
pub entries_all : (k : Kind) → length (entries_of k) ≡ length (fields_of k)
unfolding subframe1_entries subframe2_entries subframe3_entries almanac_entries utc_entries other_entries
entries_all Subframe1 = refl
entries_all Subframe2 = refl
entries_all Subframe3 = refl
entries_all Almanac = refl
entries_all Utc = refl
entries_all Other = refl

entries_tested : (k : Kind) → T (every_below (length (entries_of k)) (λ i. entry_holds k (entry_at k i)))
unfolding every_below table20_I table20_III aodo table20_VI table20_IX table20_X subframe1_entries subframe2_entries subframe3_entries almanac_entries utc_entries other_entries entry_holds named one_with eq_z
entries_tested Subframe1 = tt
entries_tested Subframe2 = tt
entries_tested Subframe3 = tt
entries_tested Almanac = tt
entries_tested Utc = tt
entries_tested Other = tt

-- each field that is not named as one that no table has is listed by one row, and both papers give it one scale
pub entries_hold : (k : Kind) (i : ℕ) → i < length (entries_of k) → T (entry_holds k (entry_at k i))
entries_hold k = every_below_at (length (entries_of k)) (λ i. entry_holds k (entry_at k i)) (entries_tested k)

-- the almanac's af0 is joined from its parts with the sign and of the bits that its row prints
pub joined-printed : (high low : ℕ) → joined high low ≡ read_as (row_of table20_VI "a_f0").bits (high % 256 * 8 + low % 8)
unfolding joined table20_VI named
joined-printed high low = refl
