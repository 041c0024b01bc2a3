-- Definitions. A feed: its answer, and the collector after it (document 01, 'Finding and holding', and number 13 of its table).
use Rattle.std.specs.Prelude.{not, List, ℕ, ◌-◌, set}
use Rattle.reader.specs.Reader as Reader
use Rattle.answer.specs.Answer.{Answer, accepted, refused, refuse_if}
use Rattle.record.specs.declared.record.Record.{Record}
use Rattle.satellite_number.specs.Numbers.{is_satellite}
use Rattle.pages.specs.After.{pages_after}
use Rattle.satellite.specs.Satellite.{satellite_after}
use Rattle.collector.specs.Held.{satellite_of}
use Rattle.collector.specs.declared.held.Collector.{Collector}

-- the collector after a record of satellite n: it takes the place of the one of its kind, and all else stays
unfoldable pub kept : Collector → ℕ → Record → Collector
kept c n r = record { satellites = set c.satellites (n - 1) (satellite_after (satellite_of c n) r); pages = pages_after c.pages r }

-- ---- a feed of the block at place p of the log s, for satellite n

-- number 13, then the reader's numbers; else the record
unfoldable pub feed : List ℕ → ℕ → ℕ → Answer Record
feed s p n =
    refuse_if (not (is_satellite n)) 13 n
    (Reader.read s p)

-- a refusal leaves the collector as it was
unfoldable pub collector_after : Collector → ℕ → Answer Record → Collector
collector_after c n (accepted r) = kept c n r
collector_after c n (refused m d) = c

unfoldable pub fed : Collector → List ℕ → ℕ → ℕ → Collector
fed c s p n = collector_after c n (feed s p n)
