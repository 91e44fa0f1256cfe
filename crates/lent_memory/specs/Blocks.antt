-- The right to give a block back to lent memory, and the slot that the memory lies in.
use Rattle.std.specs.Prelude.{◌≡◌, ℕ, ◌^◌, ◌<◌, ◌≤◌, List}
use mir.Syntax.{Ty}
use mir.Val.{Val}
use prog.Memory.{size}
use base.Fraction.{full_share}
use base.Fml.{Lft, Fml, ffalse, fsep, fex, fwand}
use denote.RattleType.{RattleType}
use denote.Memory.{cell_at}
use denote.RawPtr.{Ptr, block_ptr, null_ptr, room_for}
use denote.Sharing.{said}
use denote.Hidden.{guarded}
use Rattle.lent_memory.specs.Ownership.{bytes_or_none}

-- the address and the size of no memory
abbrev pub no_memory : Ptr × ℕ
no_memory = (null_ptr, 0)

-- the right to give the block at p, which has room for a value of type τ, back to the memory r, an address and a size
abbrev pub block_token : Ptr × ℕ → Ty → Ptr → Fml
block_token r τ p = fex ((p ≡ r.0) × (size τ ≤ r.1) × (r.1 < 2 ^ 63)) (λ _. fwand (room_for τ p) (bytes_or_none r.1 p))

module _ (F : RattleType) (I : F.Denot → Fml) where
  -- fields in memory, of which I holds
  abbrev pub fields_with : ℕ → ℕ → Fml
  fields_with b o = fex (List Val) (λ vs. fsep (cell_at full_share F.mir vs b o) (fex F.Denot (λ i. fsep (F.own_val i
      vs) (I i))))

  -- fields that a reference leads to: they are reached with the token of the thread, and I holds again afterwards
  abbrev pub behind_a_ref : Ptr → Lft → Fml
  behind_a_ref (block_ptr b o) = guarded (b, o) (fields_with b o)
  behind_a_ref null_ptr = said ffalse
