-- The log of the timeline oracle: what it says of the pairs, and the rule that it keeps (Kronos, EuroSys 2014).
pub use Rattle.weave_entries.specs.OracleReplay.{settled_by, settled_entry, pairs_of_entry, pairs_of_log}
pub use Rattle.weave_entries.specs.OracleRules.{IsRightEntry, IsRightFrom, IsOracleLog}
