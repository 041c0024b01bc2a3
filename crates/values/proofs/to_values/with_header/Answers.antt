-- Six values, then the record's own, then what is left of the zeros.
use Rattle.std.proofs.Common.{◌≡◌, refl, sym, ap, ◌∙◌, arith, length, ℕ, zero, suc, ◌+◌, ◌-◌, ◌≤◌, List, [], ◌∷◌, ◌++◌, take, drop, ℤ, pos}
use Rattle.std.specs.Prelude.{replicate}
use Rattle.record.specs.declared.record.Header.{Header}
use Rattle.values.specs.Values.{padded, header_then}
use Rattle.values.specs.laws.Machine.{unsigned_held}
use Rattle.values.proofs.to_values.with_header.Goals as goal

padded-is : (n : ℕ) (l : List ℤ) → length l ≤ n → padded n l ≡ l ++ drop (length l) (replicate n (pos 0))
unfolding padded
padded-is zero [] h = refl
padded-is zero (z ∷ l) h = absurd (omega arith)
padded-is (suc n) [] h = ap (λ x. pos 0 ∷ x) (padded-is n [] (omega arith))
padded-is (suc n) (z ∷ l) h = ap (λ x. z ∷ x) (padded-is n l (omega arith))

stored : (h : Header) (own header own' : List ℤ) → header ≡ header_then h [] → own' ≡ own → length own ≤ 19
    → take 6 (header ++ replicate 19 (pos 0)) ++ (own' ++ drop (6 + length own - 6) (drop 6 (header ++ replicate 19 (pos 0)))) ≡ padded 25 (header_then h own)
unfolding padded
stored h own header own' e f l =
    let rest : 6 + length own - 6 ≡ length own = omega arith in
    (λ i. take 6 (e i ++ replicate 19 (pos 0)) ++ (f i ++ drop (rest i) (drop 6 (e i ++ replicate 19 (pos 0)))))
    ∙ ap (header_then h) (sym (padded-is 19 own l))

pub returns : goal.returns
returns c =
    stored c.args.h c.args.own.now c.copy_from_slice.new.self c.copy_from_slice-2.new.self
    (c.copy_from_slice.ensures.after ∙ (λ i. unsigned_held c.from.ensures c.from.type_inv i ∷ unsigned_held c.from-2.ensures c.from-2.type_inv i ∷ unsigned_held c.from-3.ensures c.from-3.type_inv i ∷ unsigned_held c.from-4.ensures c.from-4.type_inv i ∷ unsigned_held c.from-5.ensures c.from-5.type_inv i ∷ unsigned_held c.from-6.ensures c.from-6.type_inv i ∷ []))
    c.copy_from_slice-2.ensures.after c.requires
