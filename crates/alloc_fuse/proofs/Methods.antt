-- The fuse as the methods of its `impl` have it, and `has_failed` and `fail` at a call: what each is handed, and what a
-- caller has of it. Assumes `Logic`.
use Rattle.std.proofs.Common.{◌≡◌, Bool, List, [], ◌∷◌, refl, ap, Bor}
use seplogic.Ra.Ura.{Ura}
use mir.Syntax.{Args, Callee, a_type, dnil, dcons}
use mir.Val.{Val, vunit, vbool}
use base.Logic.{SProp, ent, sep, ex, guard, emp, id⊢}
use base.Fml.{Lft, Share, Fml, ftrue, fsep}
use prog.Memory.{Memory}
use prog.Routine.{Routine}
use types.Logic.{Logic, sem}
use contract.BorrowLft.{◌⊑◌}
use contract.Monad.{Fun, fact, fact_i}
use types.Kit.{‵, raw, ◌⊛◌, some, later, ◌$◌, ◌∵◌, !, qed, move, drop, use0, use1, split, join, pick, fjoin, feq_i}
use types.Kit.{feq_l, check, show, await, updating, now as at_once, done}
use denote.RattleType.{RattleType}
use denote.Memory.{hidden_shr}
use denote.Param.{bounded, layouts, param}
use denote.Param.Laws.{Laws, param_laws}
use denote.Ref.{shr_vals}
use denote.Signature.{Slot, plain}
use denote.Builtin.{RefOf, bool, unit}
use denote.Steps.{nothing, only}
use denote.Triple.Statement.{Contract}
use denote.Triple.Spec.{triple_of}
use Rattle.std.proofs.alloc.Calls.{Al}
use Rattle.alloc_fuse.specs.declared.Fuse.{Fuse}
use Rattle.alloc_fuse.specs.contracts.Fuse as fuse
use Rattle.alloc_fuse.proofs.Fuse.TheLaws as fuse_laws
use Rattle.alloc_fuse.specs.contracts.Fuse.has_failed as asked
use Rattle.alloc_fuse.specs.contracts.Fuse.has_failed.Key as asked_at
use Rattle.alloc_fuse.specs.contracts.Fuse.fail as failed
use Rattle.alloc_fuse.specs.contracts.Fuse.fail.Key as failed_at

module _ (Z : Al) where
  abbrev pub Row : RattleType
  Row = fuse.the_row (param 0 Z.row)

  abbrev pub Row_laws : Laws Row
  Row_laws = fuse_laws.the_row_laws (param 0 Z.row) (param_laws 0 Z.row Z.laws)

  -- what the holder of a `&` has of the fuse
  abbrev pub seen_fuse : Lft → Bor (Fuse Z.row.Denot) → Fml
  seen_fuse κ r = hidden_shr Row κ r.now r.ref_ptr.0 r.ref_ptr.1

  -- the type arguments of these methods, and their `self`
  abbrev pub args : Args
  args = bounded (a_type ∷ []) (Z.row, tt) (dcons Z.d (dcons Z.drops dnil))

  abbrev pub self : Slot 2
  self = RefOf (0 ∷ []) tt (plain (λ _. Row)) (λ _. tt)

  abbrev pub has_failed_key : Callee
  has_failed_key = asked_at.name (layouts (a_type ∷ []) (Z.row, tt))

  abbrev pub fail_key : Callee
  fail_key = failed_at.name (layouts (a_type ∷ []) (Z.row, tt))

module _ {M : Type 1} {𝓤 : Ura M} (𝓛 : Logic 𝓤) (κ ρ : Lft) (q s : Share) where
  open 𝓛 use {A}

  -- the tokens of the borrow and of what the fuse may hold
  abbrev pub Tokens : SProp 𝓤
  Tokens = sep 𝓤 (A.lft κ q) (sep 𝓤 (A.lft ρ s) (emp 𝓤))

module _ (Z : Al) {M : Type 1} {𝓤 : Ura M} (𝓛 : Logic 𝓤) (at_mem : Memory → SProp 𝓤) (run : Routine → Fun 𝓤) where
  open 𝓛 use {H}

  abbrev pub HasFailed : Contract 𝓤
  HasFailed = triple_of 𝓛 (asked.signature Z.row) (asked.spec Z.row 𝓛 at_mem run)

  abbrev pub Fails : Contract 𝓤
  Fails = triple_of 𝓛 (failed.signature Z.row) (failed.spec Z.row 𝓛 at_mem run)

  module _ (κ ρ : Lft) (q s : Share) (out : κ ⊑ ρ) (r : Bor (Fuse Z.row.Denot)) where
    abbrev pub at_has_failed : HasFailed.Ghost
    at_has_failed = (((κ, (ρ, tt)), (q, (s, tt)), (out, tt), (r, tt), (shr_vals r, tt)), tt)

    abbrev pub at_fail : Fails.Ghost
    at_fail = at_has_failed

    abbrev Handed : SProp 𝓤
    Handed = sep 𝓤 (sem 𝓛 (seen_fuse Z κ r)) (Tokens 𝓛 κ ρ q s)

    pub has_failed_goes : ρ ⊑ Z.row.lives → ent 𝓤 Handed (HasFailed.pre at_has_failed)
    has_failed_goes le =
        qed 𝓛 (‵ (seen_fuse Z κ r) ∷ raw (Tokens 𝓛 κ ρ q s) ∷ []) ∵
        feq_i ! (List Val) (shr_vals r) (shr_vals r) refl $ fjoin ! $ nothing ! $ move ! (1 ∷ 0 ∷ []) $ fjoin ! $
        move ! (1 ∷ 0 ∷ []) $ join ! $ nothing ! $
        use0 𝓛 (raw (fact 𝓤 (ρ ⊑ Z.row.lives))) (fact_i 𝓤 (ρ ⊑ Z.row.lives) (emp 𝓤) le) $ join ! $
        move ! (1 ∷ 0 ∷ []) $ done !

    pub fail_goes : ρ ⊑ Z.row.lives → ent 𝓤 Handed (Fails.pre at_fail)
    fail_goes = has_failed_goes

    pub has_failed_gives : (v : Val) → ent 𝓤 (HasFailed.post at_has_failed v) (H.⇛ (ex 𝓤 (λ (t : Bool). guard 𝓤 (v ≡
        vbool t) (Tokens 𝓛 κ ρ q s))))
    has_failed_gives v =
        qed 𝓛 (raw (HasFailed.post at_has_failed v) ∷ []) ∵ updating ! $
        use1 𝓛 (later (some (λ (t : Bool). (raw (Tokens 𝓛 κ ρ q s) ⊛ ‵ (bool.own_val t (v ∷ []))) ⊛ some (λ (ws : Unit
        {0} × Unit {0}). ‵ (fsep ftrue ftrue) ⊛ ‵ ftrue)))) (id⊢ 𝓤 _) $ await ! tt $ pick ! (λ t.
        split ! $ split ! $ move ! (1 ∷ []) $ feq_l ! (λ e. at_once ! $
        show ! (λ (t : Bool). guard 𝓤 (v ≡ vbool t) (Tokens 𝓛 κ ρ q s)) t $ check ! (ap only e) $
        move ! (1 ∷ []) $ drop ! $ done !))

    pub fail_gives : (v : Val) → ent 𝓤 (Fails.post at_fail v) (H.⇛ (guard 𝓤 (v ≡ vunit) (Tokens 𝓛 κ ρ q s)))
    fail_gives v =
        qed 𝓛 (raw (Fails.post at_fail v) ∷ []) ∵ updating ! $
        use1 𝓛 (later (some (λ (t : Unit {0}). (raw (Tokens 𝓛 κ ρ q s) ⊛ ‵ (unit.own_val t (v ∷ []))) ⊛ some (λ (ws :
        Unit {0} × Unit {0}). ‵ (fsep ftrue ftrue) ⊛ ‵ ftrue)))) (id⊢ 𝓤 _) $ await ! tt $ pick ! (λ t.
        split ! $ split ! $ move ! (1 ∷ []) $ feq_l ! (λ e. at_once ! $ check ! (ap only e) $
        move ! (1 ∷ []) $ drop ! $ done !))
