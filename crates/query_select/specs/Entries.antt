-- A query and a filter as the definitions of a run take them: as the entry of a system.
use Rattle.std.specs.Prelude.{ℕ, ◌≡◌, false, true, nat_eq, if◌then◌else◌, [], Option, Some, None}
use Rattle.scenario_record.specs.declared.record.SystemEntry.{SystemEntry}
use Rattle.query_select.specs.declared.query.Query.{Query}
use Rattle.query_select.specs.declared.filter.Filter.{Filter}

-- a system that has this query and this filter, and nothing else
abbrev pub entry_of : Query → Filter → SystemEntry
entry_of query filter = record {
  name = [];
  group = [];
  before = [];
  after = [];
  first = false;
  last = false;
  every = 1;
  all = query.all;
  any = query.any;
  none = query.none;
  disabled = query.disabled;
  absent = query.absent;
  include_disabled = query.include_disabled;
  include_prefab = query.include_prefab;
  changed = filter.changed;
  order_changed = filter.order;
  shared = filter.shared;
  set = [];
  enable = [];
  command = [];
}

-- the same with a filter that each block passes
abbrev pub unfiltered : Query → SystemEntry
unfiltered query = entry_of query (record { changed = []; order = false; shared = [] })

-- the same with a query that each row matches
abbrev pub only_filter : Filter → SystemEntry
only_filter filter = entry_of (record { all = []; any = []; none = []; disabled = []; absent = []; include_disabled = true; include_prefab = true }) filter

-- a system has this query and this filter
pub record IsEntryOf (query : Query) (filter : Filter) (s : SystemEntry) : Type 0 where
  pub all : s.all ≡ query.all
  pub any : s.any ≡ query.any
  pub none : s.none ≡ query.none
  pub disabled : s.disabled ≡ query.disabled
  pub absent : s.absent ≡ query.absent
  pub include_disabled : s.include_disabled ≡ query.include_disabled
  pub include_prefab : s.include_prefab ≡ query.include_prefab
  pub changed : s.changed ≡ filter.changed
  pub order : s.order_changed ≡ filter.order
  pub shared : s.shared ≡ filter.shared

-- the version of the last run; 0 stands for a system that never ran
abbrev pub last_run : ℕ → Option ℕ
last_run last = if nat_eq last 0 then None else Some last
