-- Laws. The numbers of values, written in the table of their widths, are the values' bits.
use mathlib.Core.Path.{◌≡◌, ap}
use mathlib.Core.List.{List}
use Prim.Native.Nat.{ℕ}
use Rattle.layout.specs.internal.Table.{StandIn}
use Rattle.finite.specs.Tabulate.{tabulate}
use Rattle.text.specs.declared.put.Cursor.{Cursor}
use Rattle.text.specs.Cursor.{Puts}
use Rattle.text.specs.laws.Cursor.{puts_same}
use Rattle.bits.specs.Bits.{Bits}
use Rattle.layout.specs.Layout.{Layout, Values, encode}
use Rattle.layout.specs.Table.{widths, numbers, offset}
use Rattle.record.specs.Fields.{Sound}
use Rattle.record.proofs.laws.Sound.{table-size, table-encode}

module _ (n : ℕ) (l : Layout) (sound : Sound n l) (ws : List ℕ) (e : ws ≡ widths 19 l) where
  pub table_put : (v : Values l) (ns : List ℕ) → ns ≡ numbers 19 l v → {s t : Cursor}
      → ((u : Bits) → StandIn 19 ws ns u → Puts s (tabulate (offset ws 19) u) t) → Puts s (tabulate n (encode l v)) t
  table_put v ns d put =
      puts_same (put (encode l v) (table-encode n l sound ws e v ns d)) (ap (λ (k : ℕ). tabulate k (encode l v)) (table-size n l sound ws e))
