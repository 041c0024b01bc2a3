-- `collected`: each feed takes the next entries of both slices, and the loop ends with the shorter.
use Rattle.std.proofs.Common.{◌≡◌, ap, sym, ◌∙◌, arith, length, suc, ℕ, Bor, [], ◌∷◌, ◌++◌}
use Rattle.std.proofs.lemmas.Slice.Zip.{zip_turn, zip_end}
use Rattle.std.proofs.lemmas.List.{length_push}
use Rattle.collector.specs.Feed.{fed}
use Rattle.histories.specs.History.{reached}
use Rattle.histories.specs.FromSlices.{feeds, history}
use Rattle.histories.proofs.collected.Goals as goal

pub loop-place-init : goal.loop-place-init
unfolding reached feeds
loop-place-init c = c.empty-c.ensures

pub loop-place-preserved : goal.loop-place-preserved
unfolding reached feeds
loop-place-preserved c =
    let a = c.args in
    let xs = c.loop-place.yielded in
    let pair : Bor ℕ × Bor ℕ = (c.in-Some.place, c.in-Some.satellite) in
    let turn = zip_turn a.places.now a.satellites.now xs c.into_iter-place-iterator.result c.loop-place.place-iterator c.next.new.self c.next.result (grind arith) (grind arith) c.loop-place.yielded_by pair (cc) c.next.ensures.steps in
    let more : length (xs ++ (pair ∷ [])) ≡ suc (length xs) = length_push xs pair ∙ omega arith in
    c.feed.ensures.holds
    ∙ (λ t. fed (c.loop-place.invariant t) a.log.now (turn.2 0 t) (turn.3 0 t))
    ∙ sym (ap (λ n. reached (feeds n a.log.now a.places.now a.satellites.now)) more)

pub returns : goal.returns
unfolding history
returns c =
    let a = c.args in
    let end = zip_end a.places.now a.satellites.now c.loop-place.yielded c.into_iter-place-iterator.result c.loop-place.place-iterator c.next.new.self c.next.result (grind arith) (grind arith) c.loop-place.yielded_by (cc) c.next.ensures.steps in
    c.loop-place.invariant ∙ ap (λ n. reached (feeds n a.log.now a.places.now a.satellites.now)) end
