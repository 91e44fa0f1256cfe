-- Each fact about faults is computed. That a failed read leaves one text needs that bytes are cut in one way into lines
-- and a part of a line.
use Rattle.std.proofs.Common.{ℕ, List, [], ◌∷◌, ◌+◌, ◌++◌, ◌≡◌, ◌≢◌, ◌∙◌, Bool, false, true, ap, append-nil}
use Rattle.std.proofs.Common.{append_assoc, arith, codes, inl, inr, length, length-append, nat_lt, ne_eqb, refl, subst}
use Rattle.std.proofs.Common.{sym, take, true≢false}
use Rattle.std.proofs.Math.Bool.{or-true}
use Rattle.std.proofs.Math.Seq.{take-append_seam}
use Rattle.std.proofs.lemmas.List.Elements.{All-nil}
use Rattle.std.proofs.lemmas.List.Folds.{list_any_none}
use Rattle.std.proofs.lemmas.List.Sums.{AllPass-from_list_all}
use Rattle.std.specs.List.{list_all, list_any}
use Rattle.std.specs.Prelude.{◌==◌, ◌||◌, if◌then◌else◌, not}
use Rattle.msvc_demangler.specs.Lines.{pieces}
use Rattle.msvc_lines.specs.Answers.{IsFilterText}
use Rattle.msvc_streams.specs.Runs.{IsLines, IsOfOneLine, IsWithoutEnd}
use Rattle.msvc_facts.proofs.Answering.{is_answered, text_of}
use Rattle.msvc_facts.proofs.OnLiterals.{filtering}
use Rattle.msvc_facts.specs.Runs.{AreFaults, AreLineRuns}
use Rattle.msvc_facts.specs.Texts.{IsAnswered}

pub faults : AreFaults
faults = record {
  success = (refl, refl, refl);
  no_success = λ e. true≢false e.0;
  read = (refl, refl, refl);
  no_read = λ e. true≢false (sym e.0);
  read_alone = λ e. true≢false e.1;
  write_out = (refl, inl (refl, refl));
  write_err = (refl, inr (refl, refl));
  no_write = λ e. elim e.1 [ inl h ↦ true≢false (sym h.0) | inr h ↦ true≢false (sym h.1) ];
  write_one = λ e. elim e.1 [ inl h ↦ true≢false h.1 | inr h ↦ true≢false h.0 ];
  write_alone = λ e. true≢false e.0;
  memory = (refl, refl, refl);
  memory_alone = λ e. true≢false e.0;
}

abbrev has_end : List ℕ → Bool
has_end bytes = list_any (λ b. b == 10) bytes

-- the bytes after the last line feed
unfoldable part_of : List ℕ → List ℕ
part_of [] = []
part_of (b ∷ bytes) = if has_end (b ∷ bytes) then part_of bytes else b ∷ bytes

has_end-without : (part : List ℕ) → IsWithoutEnd part → has_end part ≡ false
has_end-without part without = list_any_none (λ b. b == 10) part (λ k d h. ne_eqb _ 10 (without k d h))

has_end-line : (front part : List ℕ) → has_end ((front ++ 10 ∷ []) ++ part) ≡ true
has_end-line [] part = refl
has_end-line (b ∷ front) part = ap (λ x. (b == 10) || x) (has_end-line front part) ∙ or-true (b == 10)

part_of-without : (part : List ℕ) → IsWithoutEnd part → part_of part ≡ part
unfolding part_of
part_of-without [] without = refl
part_of-without (b ∷ part) without =
    ap (λ x. if x then part_of part else b ∷ part) (has_end-without (b ∷ part) without)

part_of-line : (front part : List ℕ) → IsWithoutEnd part → part_of ((front ++ 10 ∷ []) ++ part) ≡ part
unfolding part_of
part_of-line [] part without = part_of-without part without
part_of-line (b ∷ front) part without =
    ap (λ x. if x then part_of ((front ++ 10 ∷ []) ++ part) else b ∷ ((front ++ 10 ∷ []) ++ part))
    (has_end-line (b ∷ front) part)
    ∙ part_of-line front part without

part_of-is : (finished part : List ℕ) → IsLines finished → IsWithoutEnd part → part_of (finished ++ part) ≡ part
part_of-is finished part (inl none) without = rw none (part_of-without part without)
part_of-is finished part (inr lines) without = rw lines.1 (part_of-line lines.0 part without)

-- after a whole line there is none
part_of-ended : (finished front : List ℕ) → part_of (finished ++ (front ++ 10 ∷ [])) ≡ []
part_of-ended finished front =
    ap part_of (sym (append_assoc finished front (10 ∷ [])) ∙ sym (append-nil ((finished ++ front) ++ 10 ∷ [])))
    ∙ part_of-line (finished ++ front) [] (All-nil (λ b. b ≢ 10))

-- bytes that no line feed ends are finished up to their last part
finished-is : (taken finished part : List ℕ) (n : ℕ) → taken ≡ finished ++ part → IsLines finished
    → IsOfOneLine part → nat_lt 0 (length (part_of taken)) ≡ true → length taken ≡ n + length (part_of taken)
    → finished ≡ take n taken
finished-is taken finished part n cut lines (inr ended) some size =
    let last : part_of taken ≡ [] = ap part_of (cut ∙ ap (λ bytes. finished ++ bytes) ended.2)
    ∙ part_of-ended finished ended.0 in
    absurd (true≢false (sym some ∙ ap (λ bytes. nat_lt 0 (length bytes)) last))
finished-is taken finished part n cut lines (inl without) some size =
    let last : part_of taken ≡ part = ap part_of cut ∙ part_of-is finished part lines without in
    let whole : length taken ≡ length finished + length part = ap length cut ∙ length-append finished part in
    let same : length finished ≡ n = omega (arith, whole, size, ap length last) in
    sym (take-append_seam finished part) ∙ ap (λ bytes. take (length finished) bytes) (sym cut)
    ∙ ap (λ k. take k taken) same

no_end : (bytes : List ℕ) → list_all (λ b. not (b == 10)) bytes ≡ true → IsWithoutEnd bytes
no_end bytes each k d h end =
    true≢false (sym (AllPass-from_list_all (λ b. not (b == 10)) bytes each k d h) ∙ ap (λ b. not (b == 10)) end)

one_line : IsAnswered (codes "?x@@3HA\n") (codes "int x\n")
unfolding filtering pieces text_of
one_line = is_answered refl

two_lines : IsAnswered (codes "?x@@3HA\n?y@@3HA\n") (codes "int x\nint y\n")
unfolding filtering pieces text_of
two_lines = is_answered refl

last_line : IsAnswered (codes "?x@@3HA\nmain") (codes "int x\nmain\n")
unfolding filtering pieces text_of
last_line = is_answered refl

-- of a symbol and a line that is not finished the symbol is
symbol-finished : (finished part text : List ℕ) → codes "?x@@3HA\nmain" ≡ finished ++ part → IsLines finished
    → IsOfOneLine part → IsFilterText finished text → text ≡ codes "int x\n"
unfolding part_of
symbol-finished finished part text cut lines one is =
    let same = finished-is (codes "?x@@3HA\nmain") finished part 8 cut lines one refl refl in
    let of_symbol : IsFilterText (codes "?x@@3HA\n") text = subst (λ bytes. IsFilterText bytes text) same is in
    one_line.answered.1 text of_symbol.0

pub line_runs : AreLineRuns
line_runs = record {
  all = last_line.answered;
  read = record {
    leaves = (
      codes "?x@@3HA\n",
      codes "main",
      refl,
      inr (codes "?x@@3HA", refl),
      no_end (codes "main") refl,
      one_line.answered,
    );
    only = λ other left. symbol-finished left.0 left.1 other left.2 left.3 (inl left.4) left.5;
  };
  memory = record {
    leaves = (
      codes "?x@@3HA\n",
      codes "main",
      refl,
      inr (codes "?x@@3HA", refl),
      inl (no_end (codes "main") refl),
      one_line.answered,
    );
    only = λ other left. symbol-finished left.0 left.1 other left.2 left.3 left.4 left.5;
  };
  memory_at_the_end = (
    codes "?x@@3HA\n",
    codes "?y@@3HA\n",
    refl,
    inr (codes "?x@@3HA", refl),
    inr (codes "?y@@3HA", no_end (codes "?y@@3HA") refl, refl),
    one_line.answered,
  );
  write = (
    codes "?x@@3HA\n",
    codes "?y@@3HA\n",
    codes "int x\n",
    codes "int",
    codes " y\n",
    refl,
    inr (codes "?x@@3HA", refl),
    inr (codes "?y@@3HA", no_end (codes "?y@@3HA") refl, refl),
    one_line.answered,
    refl,
    two_lines.answered,
  );
  write_only = λ text left.
      let before = symbol-finished left.0 left.1 left.2 left.5 left.6 left.7 left.8 in
      (left.3, left.4, left.9 ∙ ap (λ bytes. bytes ++ left.3) before, last_line.answered.1 (text ++ left.4) left.10.0);
}
