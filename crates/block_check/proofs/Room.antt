-- Laws. The view of a block at a place of a log: there is none where fewer than 302 bytes are left; else it is of that log and place.
use Rattle.std.specs.Prelude.{◌≡◌, List, ℕ, ◌+◌, ◌<◌, ◌≤◌, Some, None, length}
use Rattle.std.proofs.Common.{ap, arith, le-leb}
use Rattle.std.proofs.lemmas.Bool.{lt-leb}
use Rattle.std.proofs.Math.Decide.{dec_lt}
use Rattle.block.specs.View.{block_at}

module _ (s : List ℕ) (p : ℕ) where
  pub no_room : None ≡ block_at s p → length s < p + 302
  unfolding block_at
  no_room e = go (dec_lt (length s) (p + 302))
    where
      go : Dec (length s < p + 302) → length s < p + 302
      go (yes h) = h
      go (no h) = let there = rw (le-leb (p + 302) (length s) (omega arith)) at e in cc

  pub the_block : (t : List ℕ) (q : ℕ) → Some (t, q) ≡ block_at s p → (t ≡ s) × (q ≡ p) × (p + 302 ≤ length s)
  unfolding block_at
  the_block t q e = go (dec_lt (length s) (p + 302))
    where
      go : Dec (length s < p + 302) → (t ≡ s) × (q ≡ p) × (p + 302 ≤ length s)
      go (yes h) = let none = rw (lt-leb (p + 302) (length s) h) at e in cc
      go (no h) =
          let there = rw (le-leb (p + 302) (length s) (omega arith)) at e in
          let pair : ◌≡◌ {A = List ℕ × ℕ} (t, q) (s, p) = cc in
          (ap (λ (x : List ℕ × ℕ). x.0) pair, ap (λ (x : List ℕ × ℕ). x.1) pair, omega arith)
