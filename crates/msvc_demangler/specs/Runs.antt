-- What a run has written when it ends, also if it ends with a fault.
pub use Rattle.msvc_streams.specs.Runs.{IsLines, IsOfOneLine, IsWithEnd, IsWithoutEnd, Writes, WritesPart}
pub use Rattle.msvc_lines.specs.LineRuns.{LeavesOff, WritesLines, WritesText}
pub use Rattle.msvc_filter.specs.FilterRuns.{LeavesFilteredIn, WritesFiltered, WritesFilteredIn, max_held}
