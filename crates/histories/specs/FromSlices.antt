-- Definitions. The history of feeds that two slices state, and the questions after it.
use Rattle.std.specs.Prelude.{List, [], ◌∷◌, ℕ, zero, suc, min, length, get_or}
use Rattle.answer.specs.Answer.{Answer}
use Rattle.collector.specs.Questions as Questions
use Rattle.histories.specs.History.{Feed, reached}
use Rattle.orbit_set.specs.declared.set.OrbitSet.{OrbitSet}
use Rattle.record.specs.declared.record.AlmanacPage.{AlmanacPage}
use Rattle.record.specs.declared.record.UtcPage.{UtcPage}

-- the first n feeds, the latest first: entry i of the places is fed for entry i of the satellites
unfoldable pub feeds : ℕ → List ℕ → List ℕ → List ℕ → List Feed
feeds zero s places satellites = []
feeds (suc n) s places satellites = record { log = s; place = get_or places n 0; satellite = get_or satellites n 0 } ∷ feeds n s places satellites

-- as far as both slices go
unfoldable pub history : List ℕ → List ℕ → List ℕ → List Feed
history s places satellites = feeds (min (length places) (length satellites)) s places satellites

-- ---- the questions to the collector that the history reaches from the empty one

unfoldable pub set_after : List ℕ → List ℕ → List ℕ → ℕ → Answer OrbitSet
set_after s places satellites n = Questions.set (reached (history s places satellites)) n

unfoldable pub almanac_page_after : List ℕ → List ℕ → List ℕ → ℕ → Answer AlmanacPage
almanac_page_after s places satellites n = Questions.almanac (reached (history s places satellites)) n

unfoldable pub utc_page_after : List ℕ → List ℕ → List ℕ → Answer UtcPage
utc_page_after s places satellites = Questions.utc_page (reached (history s places satellites))
