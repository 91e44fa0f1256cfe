use Rattle.std.proofs.Common.{◌≡◌, Bool, true, false, ap, refl, sym}
use Rattle.std.specs.Prelude.{Decides}
use mathlib.Core.Bool.{beq, ◌&&◌}
use lib.Dec.{eqb}
use Rattle.std.proofs.lemmas.Slice.Eq.{slice_eq-Decides}
use Rattle.std.proofs.lemmas.Bool.Decides.{Decides-and, Decides-eqb, Decides-like}
use Rattle.msvc_nodes.specs.declared.nodes.Number.{Number}
use Rattle.msvc_nodes.proofs.same.same_numbers.Goals as goal

same_sign : (a b : Bool) → Decides (beq a b) (a ≡ b)
same_sign true true = (λ e. refl, λ e. refl)
same_sign true false = (λ e. sym e, λ e. sym e)
same_sign false true = (λ e. e, λ e. e)
same_sign false false = (λ e. refl, λ e. refl)

number_of : (a b : Number) → (a.is_negative ≡ b.is_negative) × (a.value ≡ b.value) → a ≡ b
number_of a b e = λ i. record { is_negative = e.0 i; value = e.1 i }

number_decides : (a b : Number) → Decides (beq a.is_negative b.is_negative && eqb a.value b.value) (a ≡ b)
number_decides a b =
    Decides-like _ (number_of a b) (λ e. (ap (λ n. n.is_negative) e, ap (λ n. n.value) e))
    (Decides-and _ _ (same_sign a.is_negative b.is_negative) (Decides-eqb a.value b.value))

pub returns : goal.returns
returns c = slice_eq-Decides number_decides c.args.left.now c.args.right.now c.eq.result c.eq.ensures
