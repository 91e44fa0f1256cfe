-- The filter as a function that a proof computes, and that its parts are those of the definition.
use Rattle.std.proofs.Common.{ℕ, List, [], ◌∷◌, ◌≡◌, ◌≤◌, ◌-◌, ◌∙◌, Bool, true, false, Option, Some, None, ap, arith}
use Rattle.std.proofs.Common.{drop, length, length-drop, nat_le, refl, slice_index, subst, suc, sym, true≢false, zero}
use Rattle.std.proofs.lemmas.Bool.{leb-false, leb-true}
use Rattle.msvc_rules.specs.Counts.{node_count}
use Rattle.msvc_grammar.specs.Derived.{Derives}
use Rattle.msvc_print.specs.Declaration.{declaration}
use Rattle.msvc_demangler.specs.Filtered.{AreOnlyParts, IsFilteredFrom, IsFilteredText, IsNoStart}
use Rattle.msvc_demangler.specs.Filtered.{IsSymbol, Part, declared, kept, max_declared, max_nodes, nothing, replaced}
use Rattle.msvc_demangler.specs.Filtered.{stays, text_of_parts}
use Rattle.msvc_demangler.specs.SymbolBounds.{candidate, continues, is_start, symbol_extent}
use Rattle.msvc_demangler.specs.GrammarNames.TheVariants.{Crate}
use Rattle.msvc_demangler.specs.Grammars.{under}
use Rattle.msvc_filter.proofs.Replaced.{filtered-only, parts-only}
use Rattle.msvc_filter.proofs.Symbols.{symbol-consumed, symbol-of}
use Rattle.msvc_facts.proofs.Symbols.{Reading, read-derived, read-rejected, read_of}
use Rattle.msvc_facts.specs.Filtered.{IsMade}

-- A symbol at a start: the bytes that it takes, and its declaration.
abbrev Found : Type 0
Found = Option (ℕ × List ℕ)

abbrev if_fits : (short goes_on : Bool) (bytes : ℕ) (text : List ℕ) → Found
if_fits true false bytes text = Some (bytes, text)
if_fits true true bytes text = None
if_fits false _ bytes text = None

abbrev declared_as : (bytes : ℕ) (text left : List ℕ) → Found
declared_as bytes text left =
    if_fits (nat_le (length text) max_declared) (continues (drop bytes left)) bytes text

abbrev extent_of : List ℕ → Reading → ℕ
extent_of left x = symbol_extent Crate left (length (candidate left) - length x.1)

abbrev if_few : (few : Bool) (flags : ℕ) (left : List ℕ) → Reading → Found
if_few true flags left x = declared_as (extent_of left x) (declaration x.0 flags) left
if_few false flags left x = None

abbrev if_read : (flags : ℕ) (left : List ℕ) → Option Reading → Found
if_read flags left None = None
if_read flags left (Some x) = if_few (nat_le (node_count x.0) max_nodes) flags left x

abbrev symbol_at : (flags : ℕ) (left : List ℕ) → Found
symbol_at flags left = if_read flags left (read_of (candidate left))

-- what it is, and that there is none
abbrev IsFound : (flags : ℕ) (left : List ℕ) → Found → Type 0
IsFound flags left None = IsNoStart (under Crate flags) left
IsFound flags left (Some s) = IsSymbol (under Crate flags) left s.0 s.1

if_fits-is : (flags : ℕ) (left : List ℕ) (x : Reading) → Derives (candidate left) x.0 x.1 x.2.notes
    → node_count x.0 ≤ max_nodes
    → (short goes_on : Bool) → nat_le (length (declaration x.0 flags)) max_declared ≡ short
    → continues (drop (extent_of left x) left) ≡ goes_on
    → IsFound flags left (if_fits short goes_on (extent_of left x) (declaration x.0 flags))
if_fits-is flags left x d few true false short ends = record {
  tree = x.0;
  rest = x.1;
  notes = x.2.notes;
  derived = d;
  nodes = few;
  short = leb-true _ _ short;
  shown = refl;
  takes = refl;
  ends = ends;
}
if_fits-is flags left x d few true true short ends = λ bytes text other.
    let one = symbol-of (under Crate flags) left bytes text x.0 x.1 x.2.notes d other in
    true≢false (sym ends ∙ ap (λ n. continues (drop n left)) (sym one.3) ∙ other.ends)
if_fits-is flags left x d few false goes_on long ends = λ bytes text other.
    let one = symbol-of (under Crate flags) left bytes text x.0 x.1 x.2.notes d other in
    let more = leb-false (length (declaration x.0 flags)) max_declared long in
    omega (arith, more, one.5, ap (λ t. length (declaration t flags)) one.1)

if_few-is : (flags : ℕ) (left : List ℕ) (x : Reading) → Derives (candidate left) x.0 x.1 x.2.notes
    → (few : Bool) → nat_le (node_count x.0) max_nodes ≡ few → IsFound flags left (if_few few flags left x)
if_few-is flags left x d true few = if_fits-is flags left x d (leb-true _ _ few) _ _ refl refl
if_few-is flags left x d false many = λ bytes text other.
    let one = symbol-of (under Crate flags) left bytes text x.0 x.1 x.2.notes d other in
    let more = leb-false (node_count x.0) max_nodes many in
    omega (arith, more, one.2, ap node_count one.1)

symbol_at-is : (flags : ℕ) (left : List ℕ) → IsFound flags left (symbol_at flags left)
symbol_at-is flags left = on (read_of (candidate left)) refl
  where
    on : (found : Option Reading) → read_of (candidate left) ≡ found → IsFound flags left (if_read flags left found)
    on None e = λ bytes text other.
        read-rejected (candidate left) e other.tree other.rest other.notes other.derived
    on (Some x) e = if_few-is flags left x (read-derived (candidate left) x e) _ refl

-- the parts of what follows some bytes
abbrev Following : Type 0
Following = (last : ℕ) (passed left : List ℕ) → List Part

abbrev part_at : Found → Following → (last b : ℕ) (passed left : List ℕ) → List Part
part_at None go last b passed left = kept b ∷ go last (b ∷ passed) left
part_at (Some s) go last b passed left =
    declared s.1 ∷ go (slice_index (b ∷ left) (s.0 - 1)) [] (drop s.0 (b ∷ left))

abbrev part_after : (start : Bool) (flags : ℕ) → Following → (last b : ℕ) (passed left : List ℕ) → List Part
part_after true flags go last b passed left = part_at (symbol_at flags (b ∷ left)) go last b passed left
part_after false flags go last b passed left = part_at None go last b passed left

-- the first of some parts, at most so many
unfoldable pub parts_from : (most flags : ℕ) → Following
parts_from zero flags last passed left = []
parts_from (suc most) flags last passed [] = []
parts_from (suc most) flags last passed (b ∷ left) =
    part_after (is_start Crate last passed (b ∷ left)) flags (parts_from most flags) last b passed left

abbrev AreFollowing : (most flags : ℕ) → Following → Type 0
AreFollowing most flags go =
    (last : ℕ) (passed left : List ℕ) → length left ≤ most → IsFilteredFrom (under Crate flags) last passed left
    (go last passed left)

part_at-is : (most flags : ℕ) (go : Following) → AreFollowing most flags go → (last b : ℕ) (passed left : List ℕ)
    → length left ≤ most → is_start Crate last passed (b ∷ left) ≡ true → (s : Found) → IsFound flags (b ∷ left) s
    → IsFilteredFrom (under Crate flags) last passed (b ∷ left) (part_at s go last b passed left)
part_at-is most flags go goes last b passed left short start None none =
    stays (λ _. none) (goes last (b ∷ passed) left short)
part_at-is most flags go goes last b passed left short start (Some s) is =
    let some = symbol-consumed (under Crate flags) (b ∷ left) s.0 s.1 is in
    replaced start is
    (goes (slice_index (b ∷ left) (s.0 - 1)) [] (drop s.0 (b ∷ left)) (omega (arith, length-drop s.0 (b ∷ left))))

part_after-is : (most flags : ℕ) (go : Following) → AreFollowing most flags go → (last b : ℕ) (passed left : List ℕ)
    → length left ≤ most → (start : Bool) → is_start Crate last passed (b ∷ left) ≡ start
    → IsFilteredFrom (under Crate flags) last passed (b ∷ left) (part_after start flags go last b passed left)
part_after-is most flags go goes last b passed left short true start =
    part_at-is most flags go goes last b passed left short start (symbol_at flags (b ∷ left))
    (symbol_at-is flags (b ∷ left))
part_after-is most flags go goes last b passed left short false none =
    stays (λ start. absurd (true≢false (sym start ∙ none))) (goes last (b ∷ passed) left short)

parts_from-are : (most flags : ℕ) → AreFollowing most flags (parts_from most flags)
unfolding parts_from
parts_from-are zero flags last passed [] short = nothing
parts_from-are zero flags last passed (b ∷ left) short = absurd (omega arith)
parts_from-are (suc most) flags last passed [] short = nothing
parts_from-are (suc most) flags last passed (b ∷ left) short =
    part_after-is most flags (parts_from most flags) (parts_from-are most flags) last b passed left (omega arith)
    (is_start Crate last passed (b ∷ left)) refl

abbrev pub parts_of : (flags : ℕ) (bytes : List ℕ) → List Part
parts_of flags bytes = parts_from (length bytes) flags 10 [] bytes

pub are_parts : {flags : ℕ} {bytes : List ℕ} {parts : List Part} → parts_of flags bytes ≡ parts
    → AreOnlyParts flags bytes parts
are_parts {flags} {bytes} {parts} e =
    let made = parts_from-are (length bytes) flags 10 [] bytes (omega arith) in
    let are = subst (IsFilteredFrom (under Crate flags) 10 [] bytes) e made in
    (are, λ others so. parts-only (under Crate flags) 10 [] bytes parts others are so)

pub is_made : {bytes text : List ℕ} → text_of_parts (parts_of 0 bytes) ≡ text → IsMade bytes text
is_made {bytes} {text} e =
    let is : IsFilteredText (under Crate 0) bytes text =
    (parts_of 0 bytes, parts_from-are (length bytes) 0 10 [] bytes (omega arith), sym e) in
    record { filtered = (is, λ other so. filtered-only (under Crate 0) bytes text other is so) }
