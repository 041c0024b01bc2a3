-- Definitions. The leap moment that WNLSF and DN of a UTC page give, as seen from a full week (document 01, 'GPS second to UTC').
use Rattle.std.specs.Prelude.{ℕ, ◌%◌, ℤ, pos, ◌+ℤ◌, ◌-ℤ◌, ◌*ℤ◌}
use Rattle.integers.specs.Whole.{modulo}
use Rattle.layout.specs.Field.{signed}

-- the eight-bit difference: WNLSF less the week's low eight bits, modulo 256, read as -128 to 127
unfoldable pub week_difference : ℕ → ℕ → ℤ
week_difference wnlsf week = signed 8 (modulo (pos wnlsf -ℤ pos (week % 256)) 256)

-- the full leap week
unfoldable pub leap_week : ℕ → ℕ → ℤ
leap_week wnlsf week = pos week +ℤ week_difference wnlsf week

-- the leap moment E, in seconds from the start of week 0: the leap week's start plus DN days
unfoldable pub leap_moment : ℕ → ℕ → ℕ → ℤ
leap_moment wnlsf dn week = leap_week wnlsf week *ℤ pos 604800 +ℤ pos dn *ℤ pos 86400
