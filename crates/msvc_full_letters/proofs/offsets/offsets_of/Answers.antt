use Rattle.std.proofs.Common.{rules, ◌≡◌, List, Bor, Some, subst, sym}
use Rattle.msvc_nodes.specs.declared.nodes.Number.{Number}
use Rattle.msvc_rules.specs.Readers.{Found}
use Rattle.msvc_cursor.specs.Parser.{Gives, beyond, state_of}
use Rattle.msvc_full_letters.proofs.OffsetSteps.{four_read, two_read}
use Rattle.msvc_full_letters.proofs.offsets.offsets_of.Goals as goal

pub returns-in_ok-last-in-VtorDisp-clause-value : goal.returns-in_ok-last-in-VtorDisp-clause-value
returns-in_ok-last-in-VtorDisp-clause-value g c = λ extra.
    let after = c.put_numbers-in-VtorDisp.new.parser in
    let Is : Found (List Number) → Type 0 = λ found.
    Gives extra (λ (x : Bor (List Number)). (x.now, after.rest.now, beyond extra (state_of after))) after.last_error.reason
    c.put_numbers-in-VtorDisp.result found in
    rw c.in-VtorDisp.is (subst Is
    (sym (two_read _ _ _ _ _ _ _ _ (c.in_ok-first-in-VtorDisp.ensures.value extra) (c.in_ok-last-in-VtorDisp.ensures.value extra)))
    (c.put_numbers-in-VtorDisp.ensures.value extra))

pub returns-in_ok-last-in-VtorDispEx-clause-value : goal.returns-in_ok-last-in-VtorDispEx-clause-value
returns-in_ok-last-in-VtorDispEx-clause-value g c = λ extra.
    let after = c.put_numbers-in-VtorDispEx.new.parser in
    let Is : Found (List Number) → Type 0 = λ found.
    Gives extra (λ (x : Bor (List Number)). (x.now, after.rest.now, beyond extra (state_of after))) after.last_error.reason
    c.put_numbers-in-VtorDispEx.result found in
    rw c.in-VtorDispEx.is (subst Is
    (sym (four_read _ _ _ _ _ _ _ _ _ _ _ _ _ _
    (c.in_ok-first-in-VtorDispEx.ensures.value extra) (c.in_ok-second-in-VtorDispEx.ensures.value extra)
    (c.in_ok-third-in-VtorDispEx.ensures.value extra) (c.in_ok-last-in-VtorDispEx.ensures.value extra)))
    (c.put_numbers-in-VtorDispEx.ensures.value extra))
