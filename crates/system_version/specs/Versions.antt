-- system versions: moments count up without end, and a version is a moment kept in 32 bits
use Rattle.std.specs.Prelude.{ℕ, zero, suc, ◌+◌, ◌^◌, ◌<◌, ◌≤◌, Bool, ◌||◌, ◌==◌, if◌then◌else◌, pos, ◌-ℤ◌, int_lt}
use Rattle.std.specs.Int.{int_wrap, w32}
use Rattle.system_version.specs.declared.version.TheConstants.{MOST_MOMENTS, LAST_VERSION}

-- one more, or 1 after the largest, so that no version is 0
abbrev pub next_version : ℕ → ℕ
next_version version = if version == LAST_VERSION then 1 else version + 1

-- the version that stands for a moment, where `first` stands for moment 1
unfoldable pub version_of : ℕ → ℕ → ℕ
version_of first zero = first
version_of first (suc zero) = first
version_of first (suc (suc moment)) = next_version (version_of first (suc moment))

-- a version that can stand for a moment
pub record IsVersion (version : ℕ) : Type 0 where
  pub from_one : 1 ≤ version
  pub within : version < 2 ^ 32

-- a moment of a run, of which there are at most MOST_MOMENTS
pub record IsMoment (moment : ℕ) : Type 0 where
  pub from_one : 1 ≤ moment
  pub within : moment ≤ MOST_MOMENTS

-- whether a change of this version is later than the version that is required: the difference, wrapped to 32
-- bits and read as signed, is above 0. Every change is later than the version 0, which stands for 'never'
abbrev pub is_later : ℕ → ℕ → Bool
is_later change required = required == 0 || int_lt (pos 0) (int_wrap w32 (pos change -ℤ pos required))
