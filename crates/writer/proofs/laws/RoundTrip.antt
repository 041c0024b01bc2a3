-- Laws. Demand 2: a block read and written at its own polarity returns unchanged; a record has one block per polarity; number 11 refuses exactly the
-- records that no accepted block reads as.
use Rattle.std.specs.Prelude.{◌≡◌, refl, Bool, true, false, List, ◌++◌, ◌↔◌, ◌⊎◌, ℕ, ◌<◌, ◌≤◌, length, get_or, drop}
use Rattle.std.proofs.Common.{sym, ap, subst, ◌∙◌, inl, inr, zero-add, arith, length-append, length-drop}
use Rattle.std.proofs.lemmas.Bool.{false≢true}
use Rattle.std.proofs.Math.ListN.{get_or-append}
use Rattle.bits.specs.Bits.{◌⊕◌, bits_at}
use Rattle.finite.specs.Tabulate.{tabulate}
use Rattle.finite.proofs.laws.Tabulate.{tabulate_at, tabulate-length, tabulate-same}
use Rattle.answer.specs.Answer.{accepted, refused}
use Rattle.block_check.specs.Compare.{Accepted, Equal, Inverse}
use Rattle.block_check.proofs.laws.Acceptance.{acceptance}
use Rattle.block.specs.Polarity.{start_bit, polarity_of}
use Rattle.block.specs.laws.Polarity.{polarity_start}
use Rattle.block.specs.declared.polarity.Polarity.{Polarity}
use Rattle.block.specs.declared.polarity.Polarity.TheVariants.{Upright, Inverted}
use Rattle.record.specs.Writable.{writable}
use Rattle.record.specs.declared.record.Record.{Record}
use Rattle.reader.specs.Reader as Reader
use Rattle.reader.specs.laws.Reader.{read-accepted, reads_writable}
use Rattle.reader.specs.laws.SameRecord.{record_unique}
use Rattle.writer.specs.Written.{block_from, block_of, Holds}
use Rattle.writer.specs.Writer as Writer
use Rattle.writer.specs.Writer.{buffer_after}
use Rattle.writer.specs.laws.Writer.{way_11, way_0, only_11, accepts, after_writing}
use Rattle.writer.proofs.laws.WrittenReads.{written_accepted, written_reads}

-- the block of a record that the writer takes, alone in a log
module _ (r : Record) (h : writable r ≡ true) (a : Polarity) where
  abbrev log : List ℕ
  log = tabulate 302 (block_of r a)

  stands : Holds log 0 (block_of r a)
  stands =
      record {
        short = omega (arith, tabulate-length 302 (block_of r a));
        room = omega (arith, tabulate-length 302 (block_of r a));
        equal = λ i l. ap (λ (n : ℕ). get_or log n 0) (zero-add i) ∙ tabulate_at 302 (block_of r a) i l;
      }

  log-accepted : Accepted log 0
  log-accepted = written_accepted r a h log 0 stands

  log_reads : Reader.read log 0 ≡ accepted r
  log_reads = written_reads r a h log 0 stands

  log-start : bits_at log 0 0 ≡ start_bit a
  unfolding block_of block_from
  log-start = stands.equal 0 (omega arith)

-- a block that reads as a record is the record's at its own polarity
pub read_written : (s : List ℕ) (p : ℕ) (r : Record) → Reader.read s p ≡ accepted r → Equal (bits_at s p) (block_of r (polarity_of (bits_at s p)))
read_written s p r e = go ((record_unique s (log r h a) p 0 taken_in (log-accepted r h a)).0 (e ∙ sym (log_reads r h a)))
  where
    a : Polarity
    a = polarity_of (bits_at s p)

    h : writable r ≡ true
    h = reads_writable s p r e

    taken_in : Accepted s p
    taken_in = (read-accepted s p r e).0

    first : bits_at s p 0 < 2
    first = ((acceptance s p).0 taken_in).0.bits 0 (omega arith)

    go : Equal (bits_at s p) (bits_at (log r h a) 0) ⊎ Inverse (bits_at s p) (bits_at (log r h a) 0) → Equal (bits_at s p) (block_of r a)
    go (inl same) i l = same i l ∙ (stands r h a).equal i l
    go (inr swapped) i l = absurd (omega (arith, swapped 0 (omega arith), log-start r h a, polarity_start (bits_at s p) first, first))

-- so it is the only accepted block of its polarity that reads as the record
pub one_block : (s : List ℕ) (p : ℕ) (r : Record) (polarity : Polarity) → Reader.read s p ≡ accepted r → polarity_of (bits_at s p) ≡ polarity
    → Equal (bits_at s p) (block_of r polarity)
one_block s p r polarity e q = subst (λ (x : Polarity). Equal (bits_at s p) (block_of r x)) q (read_written s p r e)

-- and the other polarity's block is its inverse
pub polarities_inverse : (r : Record) → writable r ≡ true → Inverse (block_of r Upright) (block_of r Inverted)
polarities_inverse r h =
    go
    ((record_unique (log r h Upright) (log r h Inverted) 0 0 (log-accepted r h Upright) (log-accepted r h Inverted)).0
    (log_reads r h Upright ∙ sym (log_reads r h Inverted)))
  where
    go : Equal (bits_at (log r h Upright) 0) (bits_at (log r h Inverted) 0) ⊎ Inverse (bits_at (log r h Upright) 0) (bits_at (log r h Inverted) 0)
        → Inverse (block_of r Upright) (block_of r Inverted)
    go (inl same) i l = absurd (omega (arith, same 0 (omega arith), log-start r h Upright, log-start r h Inverted))
    go (inr swapped) i l = sym ((stands r h Inverted).equal i l) ∙ swapped i l ∙ ap (λ (x : ℕ). x ⊕ 1) ((stands r h Upright).equal i l)

-- ---- number 11

-- a record is refused 11 exactly when no accepted block reads as it
pub number_11 : (r : Record) (buffer : List ℕ) → (Writer.write r buffer ≡ refused 11 0) ↔ ((s : List ℕ) (p : ℕ) → Reader.read s p ≡ accepted r → ⊥)
number_11 r buffer = (
  λ e s p q. false≢true (sym (only_11 r buffer e) ∙ reads_writable s p r q),
  λ none. sym (way_11 r buffer (go (writable r) refl none)),
)
  where
    go : (t : Bool) → writable r ≡ t → ((s : List ℕ) (p : ℕ) → Reader.read s p ≡ accepted r → ⊥) → t ≡ false
    go false h none = refl
    go true h none = absurd (none (log r h Upright) 0 (log_reads r h Upright))

-- ---- the buffer that the writer leaves

module _ (r : Record) (polarity : Polarity) (buffer : List ℕ) (e : Writer.write r buffer ≡ accepted tt) where
  abbrev after : List ℕ
  after = buffer_after r polarity buffer

  after-length : length after ≡ length buffer
  after-length =
      ap length (after_writing r buffer polarity e)
      ∙ length-append (tabulate 302 (block_of r polarity)) (drop 302 buffer)
      ∙ omega (arith, tabulate-length 302 (block_of r polarity), length-drop 302 buffer, (accepts r buffer e).1)

  -- its first 302 bytes are the block
  pub after_holds : length buffer ≤ 65536 → Holds after 0 (block_of r polarity)
  after_holds short =
      record {
        short = omega (arith, after-length);
        room = omega (arith, after-length, (accepts r buffer e).1);
        equal = λ i h.
            ap (λ (n : ℕ). get_or after n 0) (zero-add i)
            ∙ ap (λ (xs : List ℕ). get_or xs i 0) (after_writing r buffer polarity e)
            ∙ get_or-append (tabulate 302 (block_of r polarity)) (drop 302 buffer) 0 i (omega (arith, tabulate-length 302 (block_of r polarity)))
            ∙ tabulate_at 302 (block_of r polarity) i h;
      }

  -- so the reader finds the record in it
  pub after_reads : length buffer ≤ 65536 → Reader.read after 0 ≡ accepted r
  after_reads short = written_reads r polarity (accepts r buffer e).0 after 0 (after_holds short)

-- what was read from p and is written at its own polarity is the 302 bytes from p on
pub rewritten : (s : List ℕ) (p : ℕ) (r : Record) (buffer : List ℕ) → Reader.read s p ≡ accepted r → 302 ≤ length buffer
    → (Writer.write r buffer ≡ accepted tt) × (buffer_after r (polarity_of (bits_at s p)) buffer ≡ tabulate 302 (bits_at s p) ++ drop 302 buffer)
rewritten s p r buffer e l =
    let polarity = polarity_of (bits_at s p) in
    let taken_in : Writer.write r buffer ≡ accepted tt = sym (way_0 r buffer (reads_writable s p r e) l) in (
      taken_in,
      after_writing r buffer polarity taken_in
          ∙ ap (λ (xs : List ℕ). xs ++ drop 302 buffer) (tabulate-same 302 (block_of r polarity) (bits_at s p) (λ i h. sym (read_written s p r e i h))),
    )
