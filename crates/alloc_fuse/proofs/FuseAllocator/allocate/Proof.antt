-- It fails where it has failed, and else returns what the wrapped allocator does. Assumes `Logic`.
use Rattle.std.proofs.Common.{◌≡◌, ℕ, ◌+◌, ◌^◌, ◌<◌, Bool, true, false, List, [], ◌∷◌, Ok, Err, refl, w64, Bor}
use seplogic.Ra.Ura.{Ura}
use mir.Syntax.{Ty, Fn}
use mir.Val.{Val, vunit, vbool, vint, vptr}
use mir.MapTy.{inst_fn}
use base.Logic.{SProp, ent, id⊢}
use base.Fml.{Lft, Share, ftrue, flft}
use prog.Memory.{Memory, size, align, capped, up}
use prog.Routine.{Routine}
use prog.Wp.{Env, Wp, WpFn, Tables, after_seq, at_return}
use types.Logic.{Logic}
use contract.BorrowLft.{◌⊑◌, ⊑_trans}
use contract.Monad.{Fun, fact}
use contract.Running.{tables, tables_of}
use sound.WpLaws.{fm_of, WpFn-mono}
use types.Kit.{Item, ‵, raw, ◌⊛◌, ⋆, some, later, given, at_ret, any_q, Post as After, learn, ◌$◌, ◌∵◌, !, qed, by}
use types.Kit.{move, keep, use0, use1, use2, split, join, pick, fsplit, fjoin, suffices, await, done}
use types.Part.{whole, agg}
use types.Match.{vrt, in_variant}
use types.Run.{stop, fld, addr, lit, no_more, and_then, of_opd, first, branches, skips, switches_on, exec, returns}
use types.Run.{returns_within, enter}
use types.ByLocal.{alloc_all, pass_all, free_all, look_at, get, get_in, get_tag, through, sets, sets_last, lands_as}
use types.ByLocal.{env}
use denote.Exit.{yes}
use denote.RattleType.{owns}
use denote.RawPtr.{block_ptr}
use denote.Ref.{shr_vals}
use denote.Opens.{unhide, shr_dup}
use denote.Plain.{uint_vals, uint_Tells}
use denote.Signature.{plain, types_at}
use denote.Builtin.{usize}
use denote.Steps.{heard, nothing}
use denote.Triple.Call.{calls_at}
use denote.Triple.Clauses.{Ended, Clauses}
use denote.Triple.Spec.{triple_of}
use denote.Triple.Statement.{Triple}
use denote.Triple.Table.{entered}
use denote.Triple.Walked.{Stays, stay_dropped, walk_of, ends_at, walked, Goes-dropped, walk_Meets}
use Rattle.std.specs.Allocator.{block_if_ok}
use Rattle.std.proofs.alloc.Calls.{Al, α, seen, token, Answer, answer_val, Answer-typed, Answer-Ok, Answer-err}
use Rattle.std.proofs.alloc.Calls.{takes_key, Takes, at_takes, Answered, Takes-goes, Takes-gives, answers}
use Rattle.std.proofs.alloc.Shapes.{after, head, arm_body}
use Rattle.alloc_fuse.proofs.Methods.{Row, Row_laws, args, self, seen_fuse, has_failed_key, HasFailed}
use Rattle.alloc_fuse.proofs.Methods.{at_has_failed, has_failed_goes, has_failed_gives, fail_key, Fails, at_fail}
use Rattle.alloc_fuse.proofs.Methods.{fail_goes, fail_gives}
use Rattle.alloc_fuse.proofs.Fuse.has_failed.Met as has_failed
use Rattle.alloc_fuse.proofs.Fuse.fail.Met as fail
use Rattle.alloc_fuse.specs.declared.Fuse.{Fuse}
use Rattle.alloc_fuse.specs.contracts.FuseAllocator.allocate as F
use Rattle.alloc_fuse.specs.contracts.FuseAllocator.allocate.Key as key
use Rattle.alloc_fuse.proofs.FuseAllocator.allocate.Statement as stated
use Rattle.alloc_fuse.proofs.FuseAllocator.allocate.Code as code

module _ (Z : Al) where
  abbrev here : Fn
  here = inst_fn (args Z) code.function

  abbrev ended : Ended
  ended = F.ended Z.row Z.g Z.d Z.drops

  abbrev stayed : Stays ended.signature.params ended.kept
  stayed = (stay_dropped _ yes, (stay_dropped _ yes, (stay_dropped _ yes, tt)))

module _ (Z : Al) {M : Type 1} {𝓤 : Ura M} (𝓛 : Logic 𝓤) (at_mem : Memory → SProp 𝓤) (run : Routine → Fun 𝓤)
    (𝓣 : Tables 𝓤 𝓛.H) (takes : Triple 𝓤 (𝓣.C (takes_key Z)) (Takes Z 𝓛 at_mem run))
    (asks : Triple 𝓤 (𝓣.C (has_failed_key Z)) (HasFailed Z 𝓛 at_mem run))
    (fails : Triple 𝓤 (𝓣.C (fail_key Z)) (Fails Z 𝓛 at_mem run)) where
  open 𝓛 use {H}

  abbrev held : Clauses 𝓤 (ended Z)
  held = F.clauses Z.row Z.g Z.d Z.drops 𝓛 at_mem run

  module _ (κ ρ : Lft) (q s : Share) (out : κ ⊑ ρ) (r : Bor (Fuse Z.row.Denot)) (n a : ℕ) (τ : Ty) where
    abbrev vals : List Val × (List Val × (List Val × Unit {0}))
    vals = (shr_vals r, (vint w64 n ∷ [], (vint w64 a ∷ [], tt)))

    abbrev bound : (walk_of 𝓛 (ended Z) (stayed Z) held).Ghost
    bound = (((κ, (ρ, tt)), (q, (s, tt)), (out, tt), (r, (n, (a, tt))), vals), τ)

    abbrev vs : List Val
    vs = vptr r.ref_ptr.0 r.ref_ptr.1 ∷ vint w64 n ∷ vint w64 a ∷ []

    abbrev Post : Val → SProp 𝓤
    Post = (walk_of 𝓛 (ended Z) (stayed Z) held).post bound

    abbrev tokens : Item 𝓤
    tokens = ‵ (flft κ q) ⊛ ‵ (flft ρ s) ⊛ ‵ ftrue

    -- a result is returned with its block, if it has one
    abbrev left : Val → Answer.Denot → List (Item 𝓤)
    left v res = ‵ (Answer.own_val res (v ∷ [])) ∷ ‵ (block_if_ok (token Z r.now.alloc) τ res) ∷ tokens ∷ []

    exits : (v : Val) (res : Answer.Denot) → ent 𝓤 (⋆ 𝓛 (left v res)) (Post v)
    exits v res =
        qed 𝓛 (left v res) ∵
        suffices ! _ (ends_at 𝓛 (ended Z) (stayed Z) held bound v res (tt, (tt, (tt, tt))) (tt, (tt, (tt, tt)))) $
        nothing ! $ nothing ! $ fjoin ! $ nothing ! $ fjoin ! $ nothing ! $ fjoin ! $ join ! $ move ! (2 ∷ []) $
        join ! $ done !

    walk : n < 2 ^ 64 → a < 2 ^ 64
        → ent 𝓤 ((walk_of 𝓛 (ended Z) (stayed Z) held).pre bound) (WpFn 𝓤 H 𝓣.C 𝓣.Λ (here Z) vs Post)
    walk fn fa =
        let h : Z.row.Denot = r.now.alloc in
        let p : ℕ × ℕ = (r.ref_ptr.0, r.ref_ptr.1 + up (align (α Z)) 0) in
        let x = at_has_failed Z 𝓛 at_mem run κ ρ q s out r in
        let y = at_takes Z 𝓛 at_mem run κ q p h n a τ in
        let z = at_fail Z 𝓛 at_mem run κ ρ q s out r in
        let Said : Type 0 = (capped (size τ) ≡ n) × (capped (align τ) ≡ a) in
        let Passed = owns (types_at (ended Z).signature.params bound.0.0) bound.0.3 bound.0.4 in
        qed 𝓛 ((tokens ⊛ ‵ Passed) ∷ (raw (fact 𝓤 (ρ ⊑ Z.row.lives)) ⊛ raw (fact 𝓤 Said)) ∷ []) ∵
        move ! (1 ∷ []) $ split ! $ heard ! (ρ ⊑ Z.row.lives) (λ le. heard ! Said (λ said.
        split ! $ move ! (1 ∷ []) $ fsplit ! $ fsplit ! $ move ! (1 ∷ []) $ keep ! (0 ∷ 3 ∷ []) $
        use1 𝓛 (‵ (seen_fuse Z κ r)) (id⊢ 𝓤 _) $
        shr_dup ! (Row Z) (Row_laws Z).shr_laws r.now r.ref_ptr.0 r.ref_ptr.1 κ $
        shr_dup ! (Row Z) (Row_laws Z).shr_laws r.now r.ref_ptr.0 r.ref_ptr.1 κ $
        unhide ! $ fsplit ! $ fsplit ! $ use1 𝓛 (‵ (seen Z κ p h)) (id⊢ 𝓤 _) $ keep ! (3 ∷ 5 ∷ 4 ∷ 0 ∷ []) $
        -- [the fuse; the tokens; the fuse; the wrapped allocator]
        enter ! 𝓣.C 𝓣.Λ (here Z) vs _ $
        alloc_all ! (λ l. pass_all ! refl ((tt, tt), ((tt, record { fits = fn }), ((tt, record { fits = fa }), tt))) $
        let En : Env 𝓤 H = env (here Z).locals l in
        let Rest = Wp 𝓤 H 𝓣.C 𝓣.Λ En (after 5 (here Z).body) (at_return 𝓤 H En Post) in
        let Then : After 𝓤 H = any_q (after_seq 𝓤 H Rest (at_return 𝓤 H En Post)) in
        use2 𝓛 (raw ((HasFailed Z 𝓛 at_mem run).pre x)) (has_failed_goes Z 𝓛 at_mem run κ ρ q s out r le) $
        calls_at ! (fm_of 𝓤 H 𝓛.laws 𝓣) (HasFailed Z 𝓛 at_mem run) asks x (and_then ! (get ! refl) (no_more !)) (λ u.
        use1 𝓛 (later (some (λ (t : Bool). given (u ≡ vbool t) tokens))) (has_failed_gives Z 𝓛 at_mem run κ ρ q s out r
        u) $ await ! tt $ pick ! (λ t. learn ! (λ eu. lands_as ! eu refl (tt, tt) $
        -- [the tokens; the fuse; the wrapped allocator]
        first ! $ branches ! (get ! refl)
        (λ _. sets ! (agg ! (no_more !)) refl (tt, tt) $
        sets ! (agg ! (and_then ! (lit ! tt) (and_then ! (get ! refl) (no_more !)))) refl (Answer-typed false 0 0) $
        returns_within ! Post refl (look_at ! 0 refl) $ free_all ! refl $ nothing ! $
        use0 𝓛 (‵ (Answer.own_val (Err (record {})) (answer_val false 0 0 ∷ []))) (Answer-err 𝓛) $
        keep ! (0 ∷ 1 ∷ 2 ∷ []) $ by ! (exits (answer_val false 0 0) (Err (record {}))))
        (λ _. skips ! $ exec ! 𝓣.C 𝓣.Λ En (after 2 (here Z).body) (at_ret En Post) $
        sets ! (addr ! (through ! refl (fld ! refl (stop !)))) refl (tt, tt) $ split ! $ move ! (3 ∷ 0 ∷ []) $
        use2 𝓛 (raw ((Takes Z 𝓛 at_mem run).pre y))
        (Takes-goes Z 𝓛 at_mem run κ q p h (⊑_trans κ ρ Z.row.lives out le) n a τ said.0 said.1 fn fa) $
        calls_at ! (fm_of 𝓤 H 𝓛.laws 𝓣) (Takes Z 𝓛 at_mem run) takes y
        (and_then ! (get ! refl) (and_then ! (get ! refl) (and_then ! (get ! refl) (no_more !)))) (λ v.
        use1 𝓛 (later (raw (Answered Z 𝓛 at_mem run h τ v) ⊛ ‵ (flft κ q)))
        (Takes-gives Z 𝓛 at_mem run κ q p h n a τ v) $ await ! tt $ split ! $ move ! (1 ∷ 2 ∷ []) $ join ! $
        move ! (1 ∷ []) $
        -- [what the wrapped allocator returned; the tokens; the fuse]
        answers Z ! at_mem run h τ v
        (λ b o e. fjoin ! $ lands_as ! e refl (Answer-typed true b o) $
        first ! $ switches_on ! (get_tag ! (vrt ! refl (fld ! refl (stop !))) (whole !)) $
        exec ! 𝓣.C 𝓣.Λ En (arm_body 0 (head (after 4 (here Z).body))) Then $
        sets ! (of_opd ! (get_in ! (vrt ! refl (fld ! refl (stop !))) (in_variant ! 0 0 refl refl (whole !))))
        refl (tt, tt) $
        sets_last ! (agg ! (and_then ! (lit ! tt) (and_then ! (get ! refl) (no_more !)))) refl (Answer-typed true b o) $
        exec ! 𝓣.C 𝓣.Λ En (after 5 (here Z).body) (at_ret En Post) $
        sets ! (of_opd ! (get ! refl)) refl (Answer-typed true b o) $ returns ! (look_at ! 0 refl) $ free_all ! refl $
        use0 𝓛 (‵ (Answer.own_val (Ok (block_ptr b o)) (answer_val true b o ∷ []))) (Answer-Ok 𝓛 b o) $
        keep ! (0 ∷ 1 ∷ 2 ∷ []) $ by ! (exits (answer_val true b o) (Ok (block_ptr b o))))
        (λ e. lands_as ! e refl (Answer-typed false 0 0) $
        first ! $ switches_on ! (get_tag ! (vrt ! refl (fld ! refl (stop !))) (whole !)) $
        exec ! 𝓣.C 𝓣.Λ En (arm_body 1 (head (after 4 (here Z).body))) Then $
        sets ! (of_opd ! (get_in ! (vrt ! refl (fld ! refl (stop !))) (in_variant ! 1 0 refl refl (whole !))))
        refl (tt, tt) $ move ! (1 ∷ 0 ∷ []) $
        use2 𝓛 (raw ((Fails Z 𝓛 at_mem run).pre z)) (fail_goes Z 𝓛 at_mem run κ ρ q s out r le) $
        calls_at ! (fm_of 𝓤 H 𝓛.laws 𝓣) (Fails Z 𝓛 at_mem run) fails z (and_then ! (get ! refl) (no_more !)) (λ w.
        use1 𝓛 (later (given (w ≡ vunit) tokens)) (fail_gives Z 𝓛 at_mem run κ ρ q s out r w) $ await ! tt $
        learn ! (λ ew. lands_as ! ew refl (tt, tt) $
        sets_last ! (agg ! (and_then ! (lit ! tt) (and_then ! (get ! refl) (no_more !))))
        refl (Answer-typed false 0 0) $
        exec ! 𝓣.C 𝓣.Λ En (after 5 (here Z).body) (at_ret En Post) $
        sets ! (of_opd ! (get ! refl)) refl (Answer-typed false 0 0) $ returns ! (look_at ! 0 refl) $ free_all ! refl $
        nothing ! $ use0 𝓛 (‵ (Answer.own_val (Err (record {})) (answer_val false 0 0 ∷ []))) (Answer-err 𝓛) $
        by ! (exits (answer_val false 0 0) (Err (record {}))))))))))))))

pub allocate_spec : {M : Type 1} → stated.statement M
unfolding tables_of
allocate_spec 𝓤 𝓛 𝓜 𝓡 wired Y L g d d' met _ =
    let Z : Al = record { row = Y; laws = L; g = g; d = d; drops = d' } in
    let A = 𝓛.A in
    let 𝓣 : Tables 𝓤 𝓛.H = tables_of 𝓤 𝓛.H 𝓜 (tables 𝓤 𝓛.H 𝓜 𝓡 𝓡.env) in
    let c = F.clauses Y g d d' 𝓛 𝓜.mem 𝓡.returns in
    let asks = has_failed.met 𝓤 𝓛 𝓜 𝓡 (code.calls-alloc_fuse::Fuse::has_failed 𝓡.env wired) Y L in
    let fails = fail.met 𝓤 𝓛 𝓜 𝓡 (code.calls-alloc_fuse::Fuse::fail 𝓡.env wired) Y L in
    let gone = Goes-dropped 𝓛 2 (plain (λ _. usize)) yes (λ κs x f. refl) in
    let lent = Goes-dropped 𝓛 2 (self Z) yes (λ κs x f. refl) in
    entered 𝓤 𝓛.H (triple_of 𝓛 (F.signature Y) (F.spec Y g d d' 𝓛 𝓜.mem 𝓡.returns)) 𝓣.C 𝓣.Λ (key.name (args Z))
    (here Z) (code.unfolded 𝓤 𝓛.H 𝓜 𝓡 wired (Y, tt) d d')
    (walk_Meets 𝓛 (ended Z) (stayed Z) (lent, (gone, (gone, tt))) c (WpFn 𝓤 𝓛.H 𝓣.C 𝓣.Λ (here Z))
    (WpFn-mono 𝓤 𝓛.H 𝓛.laws 𝓣 (here Z))
    (walked 𝓛 (ended Z) (stayed Z) c (WpFn 𝓤 𝓛.H 𝓣.C 𝓣.Λ (here Z))
    (λ κs. (shr_vals, (uint_vals w64, (uint_vals w64, tt))))
    (λ κs. ((λ r vs s. s.0), (uint_Tells w64, (uint_Tells w64, tt))))
    (λ κs qs bounds a τ are. walk Z 𝓛 𝓜.mem 𝓡.returns 𝓣 (met.allocate d') asks fails κs.0 κs.1.0 qs.0 qs.1.0 bounds.0
    a.0 a.1.0 a.1.1.0 τ are.1.0.1 are.1.1.0.1)))
