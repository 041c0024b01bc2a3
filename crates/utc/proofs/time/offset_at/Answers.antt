-- The test is the definition's.
use Rattle.std.proofs.Common.{◌≡◌, sym, ap, ◌∙◌, rules, Bool, true, false, ℤ, w32, w64, to_z, of_z, SFits}
use Rattle.std.specs.Prelude.{ℕ, cond}
use Rattle.std.proofs.lemmas.Int.{to_z-of_z}
use Rattle.std.specs.Int.Signed.{lt_z}
use Rattle.leap.specs.Leap.{leap_moment}
use Rattle.record.specs.declared.record.UtcPage.{UtcPage}
use Rattle.utc.specs.Time.{gps_time, offset_at}
use Rattle.utc.proofs.time.offset_at.Goals as goal

by_test : (page : UtcPage) (week second : ℕ) (gps moment : ℤ) → gps ≡ gps_time week second → SFits w64 gps → moment ≡ leap_moment page.wnlsf page.dn week → SFits w64 moment
    → (b : Bool) → lt_z (to_z w64 (of_z w64 gps)) (to_z w64 (of_z w64 moment)) ≡ b → cond b page.dtls page.dtlsf ≡ offset_at page week second
unfolding offset_at
by_test page week second gps moment g gf m mf b e =
    ap (λ (t : Bool). cond t page.dtls page.dtlsf)
    (sym e ∙ (λ i. lt_z ((to_z-of_z w64 gps gf ∙ g) i) ((to_z-of_z w64 moment mf ∙ m) i)))

pub returns-then-gps_time-leap_moment : goal.returns-then-gps_time-leap_moment
returns-then-gps_time-leap_moment c =
    to_z-of_z w32 _ (search rules)
    ∙ by_test c.args.page c.args.week c.args.second _ _ c.gps_time.ensures (search rules) c.leap_moment.ensures (search rules) true c.if-gps_time-leap_moment.true

pub returns-else-gps_time-leap_moment : goal.returns-else-gps_time-leap_moment
returns-else-gps_time-leap_moment c =
    to_z-of_z w32 _ (search rules)
    ∙ by_test c.args.page c.args.week c.args.second _ _ c.gps_time.ensures (search rules) c.leap_moment.ensures (search rules) false c.if-gps_time-leap_moment.false
