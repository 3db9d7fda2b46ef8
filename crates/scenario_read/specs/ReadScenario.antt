-- The scenario that the bytes of a file are, or its first fault.
use Rattle.std.specs.Prelude.{ℕ, List, Option, None, Some, Err, if◌then◌else◌}
use Rattle.std.specs.Str.{is_utf8}
use Rattle.toml.specs.Data.{Members}
use Rattle.toml.specs.Parse.{parse_document}
use Rattle.scenario_record.specs.declared.fault.Cause.TheVariants.{NotToml}
use Rattle.scenario_record.specs.declared.record.Scenario.{Scenario}
use Rattle.scenario_record.specs.Faults.{bad}
use Rattle.scenario_record.specs.Readings.{Reading, whole_path}
use Rattle.scenario_tables.specs.ReadTop.{top_table}

-- the document that the bytes spell: a text of TOML in UTF-8
abbrev pub document_of : List ℕ → Option Members
document_of bytes = if is_utf8 bytes then parse_document bytes else None

abbrev pub read_document : Option Members → Reading Scenario
read_document None = Err (bad NotToml)
read_document (Some ms) = whole_path (top_table ms)

unfoldable pub scenario_of : List ℕ → Reading Scenario
scenario_of bytes = read_document (document_of bytes)
