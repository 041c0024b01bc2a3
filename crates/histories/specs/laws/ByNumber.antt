-- Laws. The number of an answer after a history of feeds tells by itself whether the call is accepted.
use Rattle.std.specs.Prelude.{List, ℕ}
use Rattle.answer.specs.Answer.{ByNumber}
use Rattle.collector.specs.laws.Ways.{set_by_number, almanac_by_number, utc_page_by_number}
use Rattle.histories.specs.History.{reached}
use Rattle.histories.specs.FromSlices.{history, set_after, almanac_page_after, utc_page_after}

module _ (s places satellites : List ℕ) where
  pub set_after_by_number : (n : ℕ) → ByNumber (set_after s places satellites n)
  unfolding set_after
  set_after_by_number = set_by_number (reached (history s places satellites))

  pub almanac_after_by_number : (n : ℕ) → ByNumber (almanac_page_after s places satellites n)
  unfolding almanac_page_after
  almanac_after_by_number = almanac_by_number (reached (history s places satellites))

  pub utc_page_after_by_number : ByNumber (utc_page_after s places satellites)
  unfolding utc_page_after
  utc_page_after_by_number = utc_page_by_number (reached (history s places satellites))
