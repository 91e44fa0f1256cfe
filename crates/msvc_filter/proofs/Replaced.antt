-- The parts that the filter makes of a text: there are some, and one list only; and those of lines stand one after
-- another.
use Rattle.std.proofs.Common.{◌≡◌, ◌≤◌, ◌<◌, ◌+◌, ◌-◌, ◌++◌, ◌∷◌, [], ◌∙◌, ◌⊎◌, inl, inr, ℕ, List, Bool, true, false}
use Rattle.std.proofs.Common.{cond, suc, zero}
use Rattle.std.proofs.Common.{Some, None, length, drop, slice_index, nat_le, refl, sym, ap, subst, arith}
use Rattle.std.proofs.Common.{append_assoc, length-append, length-drop}
use Rattle.std.specs.Prelude.{◌==◌, ◌&&◌, ◌||◌}
use Rattle.std.specs.List.{prefix_len}
use Rattle.std.proofs.lemmas.Bool.{leb-false, leb-true}
use Rattle.std.proofs.lemmas.List.{drop-append-le, get_or_append_left}
use Rattle.msvc_nodes.specs.Trees.{SymbolTree}
use Rattle.msvc_rules.specs.Counts.{node_count}
use Rattle.msvc_rules.specs.State.{State, beginning}
use Rattle.msvc_rules.specs.Readers.{Found, read_name_in}
use Rattle.msvc_rules.proofs.Laws.{symbol-derived, symbol-rejected}
use Rattle.msvc_symbol.proofs.Lawful.{lawful_of}
use Rattle.msvc_symbol.specs.Grammars.{Choice, dialect_of}
use Rattle.msvc_filter.specs.Filtered.{AreParts, DerivesUnder, IsFilteredFrom, IsFilteredText, IsNoStart, IsSymbol}
use Rattle.msvc_filter.specs.Colors.{declaration_under, shown_under}
use Rattle.msvc_filter.specs.Filtered.{Part, declared}
use Rattle.msvc_filter.specs.Filtered.{kept, max_declared, max_nodes, nothing, replaced, stays, text_of_parts}
use Rattle.msvc_streams.specs.Runs.{IsLines}
use Rattle.msvc_filter.specs.WordStates.{AreRest, Keeps, may_start}
use Rattle.msvc_filter.specs.SymbolBounds.{candidate, continues, is_word_byte, is_visible}
use Rattle.msvc_filter.specs.SymbolBounds.{symbol_extent}
use Rattle.msvc_filter.specs.declared.symbol_bounds.WordState.{WordState}
use Rattle.msvc_filter.proofs.SymbolLookahead.{AreEnough, no_symbol-more, start-more, symbol-inside, symbol-more}
use Rattle.msvc_filter.proofs.Starts.{Keeps-more, parts-kept, start-kept}
use Rattle.msvc_filter.proofs.Symbols.{symbol-consumed, symbol-of, symbol-only}

-- One list of parts at most

pub parts-only : (how : Choice) (last : ℕ) (passed left : List ℕ) (first second : List Part)
    → IsFilteredFrom how last passed left first → IsFilteredFrom how last passed left second → second ≡ first
parts-only how _ _ _ _ _ nothing nothing = refl
parts-only how _ _ _ _ _ (stays {b = b} rejected t) (stays again u) = ap (λ l. kept b ∷ l)
    (parts-only how _ _ _ _ _ t u)
parts-only how _ _ _ _ _ (stays rejected t) (replaced start is u) = absurd (rejected start _ _ is)
parts-only how _ _ _ _ _ (replaced start is t) (stays rejected u) = absurd (rejected start _ _ is)
parts-only how _ _ _ _ _
    (replaced {b = b} {bytes = bytes} {left = left} {text = first} {parts = parts} start is t)
    (replaced {bytes = others} {text = other} {parts = more} again so u) =
    let one = symbol-only how (b ∷ left) bytes others first other is so in
    let rest = subst (λ n. IsFilteredFrom how (slice_index (b ∷ left) (n - 1)) [] (drop n (b ∷ left)) more) one.0 u in
    ap (λ l. declared l ∷ more) one.1 ∙ ap (λ l. declared first ∷ l) (parts-only how _ _ _ parts more t rest)

-- Some list of parts

-- what is read of a text in the grammar that is chosen
abbrev read_under : Choice → List ℕ → Found SymbolTree
read_under how text =
    read_name_in (dialect_of how.grammar).grammar (dialect_of how.grammar).grammar.start text (beginning text)

-- whether a symbol begins at a start can be computed
symbol-decided : (how : Choice) (left : List ℕ)
    → ((bytes : ℕ) × (text : List ℕ) × IsSymbol how left bytes text) ⊎ IsNoStart how left
symbol-decided how left =
    at (read_under how (candidate left)) refl
  where
    by-end : (tree : SymbolTree) (rest : List ℕ) (s : State) → DerivesUnder how (candidate left) tree rest s.notes
        → node_count tree ≤ max_nodes → length (declaration_under how tree) ≤ max_declared
        → (on : Bool)
        → continues (drop (symbol_extent how.grammar left (length (candidate left) - length rest)) left) ≡ on
        → ((bytes : ℕ) × (text : List ℕ) × IsSymbol how left bytes text) ⊎ IsNoStart how left
    by-end tree rest s d few short false ends =
        inl (
          symbol_extent how.grammar left (length (candidate left) - length rest),
          shown_under how tree,
          record {
            tree = tree;
            rest = rest;
            notes = s.notes;
            derived = d;
            nodes = few;
            short = short;
            shown = refl;
            takes = refl;
            ends = ends;
          },
        )
    by-end tree rest s d few short true ends = inr (λ bytes text other.
        let one = symbol-of how left bytes text tree rest s.notes d other in
        let no : true ≡ false = sym ends ∙ ap (λ n. continues (drop n left)) (sym one.3) ∙ other.ends in cc)

    by-length : (tree : SymbolTree) (rest : List ℕ) (s : State) → DerivesUnder how (candidate left) tree rest s.notes
        → node_count tree ≤ max_nodes
        → (short : Bool) → nat_le (length (declaration_under how tree)) max_declared ≡ short
        → ((bytes : ℕ) × (text : List ℕ) × IsSymbol how left bytes text) ⊎ IsNoStart how left
    by-length tree rest s d few true e = by-end tree rest s d few (leb-true _ _ e) _ refl
    by-length tree rest s d few false e = inr (λ bytes text other.
        let one = symbol-of how left bytes text tree rest s.notes d other in
        let long = leb-false (length (declaration_under how tree)) max_declared e in
        omega (arith, long, one.5, ap (λ t. length (declaration_under how t)) one.1))

    by-nodes : (tree : SymbolTree) (rest : List ℕ) (s : State) → DerivesUnder how (candidate left) tree rest s.notes
        → (few : Bool) → nat_le (node_count tree) max_nodes ≡ few
        → ((bytes : ℕ) × (text : List ℕ) × IsSymbol how left bytes text) ⊎ IsNoStart how left
    by-nodes tree rest s d true e = by-length tree rest s d (leb-true _ _ e) _ refl
    by-nodes tree rest s d false e = inr (λ bytes text other.
        let one = symbol-of how left bytes text tree rest s.notes d other in
        let many = leb-false (node_count tree) max_nodes e in
        omega (arith, many, one.2, ap node_count one.1))

    at : (found : Found SymbolTree) → read_under how (candidate left) ≡ found
        → ((bytes : ℕ) × (text : List ℕ) × IsSymbol how left bytes text) ⊎ IsNoStart how left
    at None e = inr (λ bytes text other.
        symbol-rejected (lawful_of how.grammar).fit (candidate left) e other.tree other.rest other.notes other.derived)
    at (Some x) e =
        by-nodes x.0 x.1 x.2 (symbol-derived (lawful_of how.grammar).fit (candidate left) x.0 x.1 x.2 e) _ refl

next : WordState → ℕ → WordState
next scan b = record { seen_question_mark = (scan.seen_question_mark || b == 63) && is_word_byte b; last = b }

Keeps-next : (scan : WordState) (b last : ℕ) (passed : List ℕ) → Keeps scan last passed
    → Keeps (next scan b) last (b ∷ passed)
unfolding next
Keeps-next scan b last passed so = Keeps-more scan (next scan b) b last passed refl refl so

-- a scan after a line or a symbol
abbrev pub fresh : ℕ → WordState
fresh last = record { seen_question_mark = false; last = last }

pub Keeps-fresh : (last : ℕ) → Keeps (fresh last) last []
Keeps-fresh last = record { seen = refl; before = refl }

pub rest-exists : (how : Choice) (most : ℕ) (scan : WordState) (left : List ℕ) → length left ≤ most
    → (parts : List Part) × AreRest how scan left parts
rest-exists how most scan [] short = ([], λ last passed so. nothing)
rest-exists how zero scan (b ∷ left) short = absurd (omega arith)
rest-exists how (suc most) scan (b ∷ left) short =
    at (may_start how.grammar scan (b ∷ left)) refl
    (rest-exists how most (next scan b) left (omega arith)) (λ last l h. rest-exists how most (fresh last) l h)
  where
    keep : (may_start how.grammar scan (b ∷ left) ≡ true → IsNoStart how (b ∷ left))
        → (parts : List Part) × AreRest how (next scan b) left parts
        → (parts : List Part) × AreRest how scan (b ∷ left) parts
    keep none rest = (
      kept b ∷ rest.0,
      λ last passed so.
          stays (λ start. none (start-kept how.grammar scan (b ∷ left) last passed so ∙ start))
          (rest.1 last (b ∷ passed) (Keeps-next scan b last passed so)),
    )

    decided : may_start how.grammar scan (b ∷ left) ≡ true
        → ((bytes : ℕ) × (text : List ℕ) × IsSymbol how (b ∷ left) bytes text) ⊎ IsNoStart how (b ∷ left)
        → (parts : List Part) × AreRest how (next scan b) left parts
        → ((last : ℕ) (l : List ℕ) → length l ≤ most → (parts : List Part) × AreRest how (fresh last) l parts)
        → (parts : List Part) × AreRest how scan (b ∷ left) parts
    decided start (inl s) rest after =
        let consumed = symbol-consumed how (b ∷ left) s.0 s.1 s.2 in
        let more = after (slice_index (b ∷ left) (s.0 - 1)) (drop s.0 (b ∷ left))
        (omega (arith, short, consumed, length-drop s.0 (b ∷ left))) in (
          declared s.1 ∷ more.0,
          λ last passed so.
              replaced (sym (start-kept how.grammar scan (b ∷ left) last passed so) ∙ start) s.2
              (more.1 _ [] (Keeps-fresh (slice_index (b ∷ left) (s.0 - 1)))),
        )
    decided start (inr none) rest after = keep (λ again. none) rest

    at : (start : Bool) → may_start how.grammar scan (b ∷ left) ≡ start
        → (parts : List Part) × AreRest how (next scan b) left parts
        → ((last : ℕ) (l : List ℕ) → length l ≤ most → (parts : List Part) × AreRest how (fresh last) l parts)
        → (parts : List Part) × AreRest how scan (b ∷ left) parts
    at false e rest after = keep (λ start. let no : false ≡ true = sym e ∙ start in absurd (cc)) rest
    at true e rest after = decided e (symbol-decided how (b ∷ left)) rest after

pub filtered-only : (how : Choice) (bytes first second : List ℕ) → IsFilteredText how bytes first
    → IsFilteredText how bytes second → second ≡ first
filtered-only how bytes first second a b =
    b.2 ∙ ap text_of_parts (parts-only how 10 [] bytes a.0 b.0 a.1 b.1) ∙ sym a.2

-- Lines one after another

pub text-append : (parts others : List Part)
    → text_of_parts (parts ++ others) ≡ text_of_parts parts ++ text_of_parts others
text-append [] others = refl
text-append (kept b ∷ parts) others = ap (λ l. b ∷ l) (text-append parts others)
text-append (declared text ∷ parts) others =
    ap (λ l. text ++ l) (text-append parts others)
    ∙ sym (append_assoc text (text_of_parts parts) (text_of_parts others))

visible-ended : (front : List ℕ) → prefix_len is_visible (front ++ 10 ∷ []) ≤ length front
visible-ended [] = omega arith
visible-ended (b ∷ front) = at (is_visible b) (visible-ended front)
  where
    at : (v : Bool) → prefix_len is_visible (front ++ 10 ∷ []) ≤ length front
        → cond v (1 + prefix_len is_visible (front ++ 10 ∷ [])) 0 ≤ length (b ∷ front)
    at true h = omega arith
    at false h = omega arith

ended-enough : (left front : List ℕ) → left ≡ front ++ 10 ∷ [] → AreEnough left
ended-enough left front e =
    subst AreEnough (sym e) (inr (omega (arith, visible-ended front, length-append front (10 ∷ []))))

none-left : {how : Choice} {last : ℕ} {passed left : List ℕ} {parts : List Part}
    → IsFilteredFrom how last passed left parts
    → left ≡ [] → parts ≡ []
none-left nothing e = refl
none-left (stays none rest) e = absurd (cc)
none-left (replaced start is rest) e = absurd (cc)

-- what stands after a byte that stays
joined-stays : (how : Choice) (last b : ℕ) (passed left front part : List ℕ) (parts more : List Part)
    → b ∷ left ≡ front ++ 10 ∷ []
    → AreParts how part more → IsFilteredFrom how last (b ∷ passed) left parts
    → ((rest : List ℕ) → left ≡ rest ++ 10 ∷ [] → IsFilteredFrom how last (b ∷ passed) (left ++ part) (parts ++ more))
    → IsFilteredFrom how last (b ∷ passed) (left ++ part) (parts ++ more)
joined-stays how last b passed left [] part parts more e h t further =
    let ended : b ≡ 10 = cc in
    let empty : left ≡ [] = cc in
    let over : parts ≡ [] = none-left t empty in
    let fresh_keeps : Keeps (fresh 10) last (b ∷ passed) =
    subst (λ c. Keeps (fresh 10) last (c ∷ passed)) (sym ended) (record { seen = refl; before = refl }) in
    rw (empty, over) (parts-kept how (fresh 10) (Keeps-fresh 10) h last (b ∷ passed) fresh_keeps)
joined-stays how last b passed left (x ∷ front) part parts more e h t further = further front cc

pub parts-joined : (how : Choice) (part : List ℕ) (more : List Part) → AreParts how part more
    → {last : ℕ} {passed left : List ℕ} {parts : List Part} → IsFilteredFrom how last passed left parts
    → (front : List ℕ) → left ≡ front ++ 10 ∷ [] → IsFilteredFrom how last passed (left ++ part) (parts ++ more)
parts-joined how part more h nothing front e = absurd (no front e)
  where
    no : (front : List ℕ) → [] ≡ front ++ 10 ∷ [] → ⊥
    no [] e = cc
    no (x ∷ xs) e = cc
parts-joined how part more h {last = last} {passed = passed} (stays {b = b} {left = left} {parts = parts} none t)
    front e =
    let enough = ended-enough (b ∷ left) front e in
    stays (λ start. no_symbol-more how (b ∷ left) part enough
    (none (sym (start-more how.grammar last passed (b ∷ left) part enough) ∙ start)))
    (joined-stays how last b passed left front part parts more e h t
    (λ rest is. parts-joined how part more h t rest is))
parts-joined how part more h {last = last} {passed = passed}
    (replaced {b = b} {bytes = bytes} {left = left} {text = text} {parts = parts} start is t) front e =
    let enough = ended-enough (b ∷ left) front e in
    let inside : bytes < length (b ∷ left) = symbol-inside how (b ∷ left) bytes text enough is in
    let long : length (b ∷ left) ≡ length front + 1 = ap length e ∙ length-append front (10 ∷ []) in
    let within : bytes ≤ length front = omega arith in
    let rest : drop bytes (b ∷ left) ≡ drop bytes front ++ 10 ∷ [] =
    ap (drop bytes) e ∙ drop-append-le bytes front (10 ∷ []) within in
    let past : drop bytes (b ∷ left) ++ part ≡ drop bytes (b ∷ (left ++ part)) =
    sym (drop-append-le bytes (b ∷ left) part (omega arith)) in
    let consumed = symbol-consumed how (b ∷ left) bytes text is in
    let end : slice_index (b ∷ left) (bytes - 1) ≡ slice_index (b ∷ (left ++ part)) (bytes - 1) =
    sym (get_or_append_left (b ∷ left) part 0 (bytes - 1) (omega (arith, consumed, inside))) in
    replaced (start-more how.grammar last passed (b ∷ left) part enough ∙ start)
    (symbol-more how (b ∷ left) part bytes text enough is)
    (subst (λ n. IsFilteredFrom how n [] (drop bytes (b ∷ (left ++ part))) (parts ++ more)) end
    (subst (λ l. IsFilteredFrom how (slice_index (b ∷ left) (bytes - 1)) [] l (parts ++ more)) past
    (parts-joined how part more h t (drop bytes front) rest)))

parts-after : (how : Choice) (finished part : List ℕ) (parts more : List Part) → IsLines finished
    → AreParts how finished parts → AreParts how part more → AreParts how (finished ++ part) (parts ++ more)
parts-after how finished part parts more (inl e) is h =
    let over : parts ≡ [] = none-left is e in rw (e, over) h
parts-after how finished part parts more (inr ended) is h =
    parts-joined how part more h is ended.0 ended.1

pub filtered-after : (how : Choice) (finished part text more : List ℕ) → IsLines finished
    → IsFilteredText how finished text → IsFilteredText how part more
    → IsFilteredText how (finished ++ part) (text ++ more)
filtered-after how finished part text more lines is h = (
  is.0 ++ h.0,
  parts-after how finished part is.0 h.0 lines is.1 h.1,
  ap (λ t. t ++ more) is.2 ∙ ap (λ t. text_of_parts is.0 ++ t) h.2 ∙ sym (text-append is.0 h.0),
)
