-- The block that is found stands in the log: what its bytes are, and that they are the caller's.
use Rattle.std.proofs.Common.{◌≡◌, ℕ, ◌+◌, ◌-◌, take, drop, add_comm, add-zero, sym, ap, ◌∙◌, arith, rules}
use Rattle.answer.specs.Answer.{Answer}
use Rattle.search.specs.Search.{part_of, part_place, block_part}
use Rattle.search.proofs.laws.Search.{found_inside}
use Rattle.search.proofs.part.find_part.Goals as goal

pub overflow_add-result : goal.overflow_add-result
overflow_add-result c =
    let inside = found_inside c.args.log.now c.args.p c.find.ensures c.in-Ok.is in
    omega arith

pub slice_bounds-result-end : goal.slice_bounds-result-end
slice_bounds-result-end c =
    let inside = found_inside c.args.log.now c.args.p c.find.ensures c.in-Ok.is in
    search rules

pub returns-in-Ok-clause-bytes : goal.returns-in-Ok-clause-bytes
unfolding part_of block_part
returns-in-Ok-clause-bytes c =
    let q = c.in-Ok.q in
    let size : q + 302 - q ≡ 302 = omega arith in
    ap (λ (n : ℕ). take n (drop q c.args.log.now)) size ∙ ap (part_of c.args.log.now) c.in-Ok.ensures

pub returns-in-Ok-clause-own : goal.returns-in-Ok-clause-own
unfolding part_place
returns-in-Ok-clause-own c =
    let log = c.args.log in
    ap (λ (offset : ℕ). (log.ref_ptr.0, offset)) (add_comm c.in-Ok.q log.ref_ptr.1)
    ∙ ap (λ (x : Answer ℕ). (log.ref_ptr.0, log.ref_ptr.1 + part_place x)) c.in-Ok.ensures

pub returns-in-Err-clause-bytes : goal.returns-in-Err-clause-bytes
unfolding part_of
returns-in-Err-clause-bytes c = ap (part_of c.args.log.now) c.in-Err.ensures

pub returns-in-Err-clause-own : goal.returns-in-Err-clause-own
unfolding part_place
returns-in-Err-clause-own c =
    let log = c.args.log in
    ap (λ (offset : ℕ). (log.ref_ptr.0, offset)) (sym (add-zero log.ref_ptr.1))
    ∙ ap (λ (x : Answer ℕ). (log.ref_ptr.0, log.ref_ptr.1 + part_place x)) c.in-Err.ensures
