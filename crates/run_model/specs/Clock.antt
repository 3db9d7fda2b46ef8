-- How a run counts time. A run of the model counts moments without end, and the code keeps versions of 32 bits. Each
-- definition of a run takes a clock, so that it serves both.
use Rattle.std.specs.Prelude.{ℕ, ◌+◌, Bool, nat_lt}
use Rattle.system_version.specs.Versions.{next_version, version_of, is_later}

-- the next moment, whether a mark is later than the last run of a system, and the version that a line prints
pub record Clock : Type 0 where
  pub next : ℕ → ℕ
  pub is_later : ℕ → ℕ → Bool
  pub version : ℕ → ℕ

-- moments, which lines print as versions
abbrev pub moments : ℕ → Clock
moments first = record {
  next = λ moment. moment + 1;
  is_later = λ mark last. nat_lt last mark;
  version = version_of first;
}

-- the versions that the code keeps
abbrev pub versions : Clock
versions = record {
  next = next_version;
  is_later = is_later;
  version = λ version. version;
}
