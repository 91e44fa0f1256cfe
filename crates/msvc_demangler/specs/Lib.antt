pub mod Runs
-- the definitions of the crates below that the clauses of the public calls cite
pub use Rattle.msvc_cursor.specs.Errors as MessageTexts
pub use Rattle.msvc_cursor.specs.Failures as ReadFailures
pub use Rattle.msvc_cursor.specs.Limits
pub use Rattle.msvc_cursor.specs.Messages
pub use Rattle.msvc_cursor.specs.Notes
pub use Rattle.msvc_cursor.specs.declared.failure.Failure
pub use Rattle.msvc_cursor.specs.declared.limits.Limits as CallLimits
pub use Rattle.msvc_filter.specs.Filtered
pub use Rattle.msvc_filter.specs.SliceWriters
pub use Rattle.msvc_filter.specs.SymbolBounds
pub use Rattle.msvc_filter.specs.WordStates
pub use Rattle.msvc_grammar.specs.Derived
pub use Rattle.msvc_grammar.specs.Grammar
pub use Rattle.msvc_grammar.specs.Hashes
pub use Rattle.msvc_grammar.specs.Parsed
pub use Rattle.msvc_grammar.specs.Rejections
pub use Rattle.msvc_lines.specs.Answers
pub use Rattle.msvc_lines.specs.Arguments
pub use Rattle.msvc_lines.specs.Reports
pub use Rattle.msvc_lines.specs.Lines
pub use Rattle.msvc_nodes.specs.EachName
pub use Rattle.msvc_nodes.specs.Errors
pub use Rattle.msvc_nodes.specs.Trees
pub use Rattle.msvc_nodes.specs.declared.error.ErrorRepr
pub use Rattle.msvc_nodes.specs.declared.error.Limit
pub use Rattle.msvc_print.specs.Declaration
pub use Rattle.msvc_print.specs.Laws as PrintLaws
pub use Rattle.msvc_rules.specs.Counts
pub use Rattle.msvc_rules.specs.Laws
pub use Rattle.msvc_rules.specs.Parsed as ParsedIn
pub use Rattle.msvc_rules.specs.Parts
pub use Rattle.msvc_rules.specs.Prefix
pub use Rattle.msvc_rules.specs.Reads
pub use Rattle.msvc_rules.specs.Rejections as RejectionsIn
pub use Rattle.msvc_rules.specs.State
pub use Rattle.msvc_rules.specs.Written
pub use Rattle.msvc_streams.specs.Faults
pub use Rattle.msvc_streams.specs.Streams
pub use Rattle.msvc_streams.specs.declared.watched.Fault
pub use Rattle.msvc_symbol.specs.Demangled
pub use Rattle.msvc_symbol.specs.Failures
pub use Rattle.msvc_symbol.specs.Grammars
pub use Rattle.msvc_symbol.specs.declared.grammar.Grammar as GrammarNames
pub use Rattle.msvc_tree.specs.Equality
pub use Rattle.msvc_tree.specs.View
pub use Rattle.msvc_write.specs.Serialized
