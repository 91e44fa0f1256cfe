-- The two cases of what `take` gave, and the memory as room for a type. Assumes `Logic`.
use Rattle.std.proofs.Common.{◌≡◌, ℕ, ◌%◌, ◌^◌, ◌<◌, ◌≤◌, List, [], ◌∷◌, ◌++◌, IfSome, None, Some, refl, sym, ap, subst}
use Rattle.std.proofs.Common.{◌∙◌, arith}
use seplogic.Ra.Ura.{Ura}
use mir.Syntax.{Ty, Width, w8, w16, w32, w64, w128}
use mir.Val.{Val, vcons, vnil, of_list, bytes}
use base.Logic.{ent, sep, never, id⊢}
use base.Fml.{fwand, froom}
use prog.Memory.{size, capped}
use prog.Align.{Dv, align_w, align-bytes}
use prog.Capped.{capped_is, capped_small}
use types.Logic.{Logic, sem}
use types.Kit.{Item, Goal, Seq, ‵, ◌⊛◌, ◌$◌, ◌∵◌, !, qed, move, drop, use1, split, frame, fsplit, fpick, fpack, feq_l}
use types.Kit.{done}
use types.Match.{live}
use denote.RattleType.{RattleType}
use denote.RawPtr.{Ptr, block_ptr, room_for, in_a_block}
use denote.Shadow.{pure_l}
use denote.Steps.{only}
use Rattle.std.specs.contracts.option.Option as option
use Rattle.lent_memory.specs.Blocks.{block_token}
use Rattle.lent_memory.specs.Ownership.{bytes_at, bytes_or_none}
use Rattle.lent_memory.specs.contracts.workspace.Workspace as workspace
use Rattle.lent_memory.proofs.Values.{sized_val, sized_own, sized_told}
use Rattle.lent_memory.proofs.Rooms.{retypes, some_bytes, comes_back}

abbrev pub Taken : RattleType
Taken = option.the_row workspace.the_row

abbrev pub Told : Ptr × ℕ → ℕ → ℕ → Taken.Denot → Type 0
Told r n a x = IfSome x (λ m. ((m.ptr, m.size) ≡ r) × (1 ≤ m.size) × (n ≤ m.size) × (a ≤ 16))

divides_16 : (w : Width) → Dv (bytes w) 16
divides_16 w8 = tt
divides_16 w16 = tt
divides_16 w32 = tt
divides_16 w64 = tt
divides_16 w128 = tt

hands : {M : Type 1} {𝓤 : Ura M} (𝓛 : Logic 𝓤) (τ : Ty) (b o m : ℕ) → size τ ≤ m → m % 16 ≡ 0 → m < 2 ^ 63
    → ent 𝓤 (sem 𝓛 (bytes_at (block_ptr b o) m)) (sep 𝓤 (𝓛.H.room τ b o) (sem 𝓛 (block_token (block_ptr b o, m) τ
    (block_ptr b o))))
hands {𝓤 = 𝓤} 𝓛 τ b o m holds whole small =
    let p : Ptr = block_ptr b o in
    let Is : Type 0 = (p ≡ p) × (size τ ≤ m) × (m < 2 ^ 63) in
    let is : Is = (refl, holds, small) in
    qed 𝓛 (‵ (bytes_at p m) ∷ []) ∵
    use1 𝓛 (‵ (froom τ b o) ⊛ ‵ (fwand (room_for τ p) (bytes_at p m)))
    (retypes 𝓛 b τ o m whole holds (subst (λ (k : ℕ). Dv k 16) (sym (align-bytes τ)) (divides_16 (align_w τ)))) $
    split ! $ frame ! $
    use1 𝓛 (‵ (fwand (room_for τ p) (bytes_or_none m p))) (comes_back 𝓛 b τ m p) $
    fpack ! Is (λ _. fwand (room_for τ p) (bytes_or_none m p)) is $ done !

pub hands_out : {M : Type 1} {𝓤 : Ura M} (𝓛 : Logic 𝓤) (r : Ptr × ℕ) (τ : Ty) (b o m n : ℕ) → r ≡ (block_ptr b o, m)
    → capped (size τ) ≡ n → n ≤ m → m % 16 ≡ 0 → m < 2 ^ 63
    → ent 𝓤 (sem 𝓛 (bytes_at (block_ptr b o) m)) (sep 𝓤 (𝓛.H.room τ b o) (sem 𝓛 (block_token r τ (block_ptr b o))))
hands_out {𝓤 = 𝓤} 𝓛 r τ b o m n is sized holds whole small =
    let short : size τ < 2 ^ 63 = capped_small (size τ) (omega arith) in
    let same : n ≡ size τ = sym sized ∙ capped_is (size τ) (omega arith) in
    let fits : size τ ≤ m = omega arith in
    subst (λ (u : Ptr × ℕ). ent 𝓤 (sem 𝓛 (bytes_at (block_ptr b o) m)) (sep 𝓤 (𝓛.H.room τ b o) (sem 𝓛 (block_token u τ
    (block_ptr b o))))) (sym is) (hands 𝓛 τ b o m fits whole small)

module _ {M : Type 1} {𝓤 : Ura M} {𝓛 : Logic 𝓤} {K : Type 0} {Γ : List (Item 𝓤)} {G : Goal 𝓤 𝓛.H} where
  pub taken : K → (r : Ptr × ℕ) (n a : ℕ) (x : Taken.Denot) (v : Val) → Told r n a x
      → ((b o m : ℕ) → r ≡ (block_ptr b o, m) → n ≤ m → m % 16 ≡ 0 → m < 2 ^ 63 → m < 2 ^ 64 → a ≤ 16
      → v ≡ live 1 (vcons (sized_val (block_ptr b o) m) vnil)
      → Seq K 𝓛 (‵ (bytes_at (block_ptr b o) m) ∷ Γ) G) → (v ≡ live 0 vnil → Seq K 𝓛 Γ G)
      → Seq K 𝓛 (‵ (Taken.own_val x (v ∷ [])) ∷ Γ) G
  taken t r n a None v told some none =
      fpick t (λ us. fsplit t $ feq_l t (λ is. fpick t (λ vss. fsplit t $ feq_l t (λ is'. drop t $
      none (ap only is ∙ ap (λ (ws : List Val). live 0 (of_list ws)) is')))))
  taken t r n a (Some w) v told some none =
      fpick t (λ us. fsplit t $ feq_l t (λ is. fpick t (λ vss. fsplit t $ feq_l t (λ is'. fsplit t $ move t (1 ∷ []) $
      drop t $ fsplit t $ pure_l t (sized_own w.ptr w.size vss.0) (λ s.
      let parts = sized_told w.ptr w.size vss.0 s in
      use1 𝓛 (‵ (bytes_at w.ptr w.size)) (some_bytes 𝓛 0 w.size w.ptr told.1) $
      in_a_block t w.ptr (λ p. bytes_at p w.size) (id⊢ 𝓤 (never 𝓤)) (λ b o at.
      some b o w.size (sym told.0 ∙ (λ i. (at i, w.size))) told.2 w.fits.0 w.fits.1 parts.1 told.3
      (ap only is ∙ ap (λ (xs : List Val). live 1 (of_list xs)) (is' ∙ ap (λ (xs : List Val). xs ++ []) parts.0)
      ∙ (λ i. live 1 (vcons (sized_val (at i) w.size) vnil)))))))))
