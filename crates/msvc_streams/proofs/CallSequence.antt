-- What is written when one call follows another.
use Rattle.std.proofs.Common.{◌≡◌, ◌++◌, [], ℕ, List, Result, Ok, Err, IfErr, true, false, ap, sym, refl}
use Rattle.std.proofs.Common.{◌∙◌, append-nil, append_assoc, take, drop, length, ◌-◌, length-drop, subst, take_all, arith}
use Rattle.msvc_streams.specs.Faults.{FailureFlag, SetsFlagOf, no_stream}
use Rattle.msvc_streams.specs.Runs.{Writes, WritesPart}
use Rattle.msvc_streams.specs.declared.watched.Fault.{Fault}
use Rattle.msvc_streams.specs.declared.watched.Fault.TheVariants.{Read, Write, Memory}

-- what is left of a slice, to its end
pub to_end : (bytes : List ℕ) (sent : ℕ) → take (length bytes - sent) (drop sent bytes) ≡ drop sent bytes
to_end bytes sent =
    let long = length-drop sent bytes in
    take_all (length bytes - sent) (drop sent bytes) (omega arith)

-- each whole text of one kind is one of another
pub Writes-map : {A : Type 0} (r : Result A Fault) (P Q : List ℕ → Type 0) → ((text : List ℕ) → P text → Q text)
    → (text : List ℕ) → Writes r P text → Writes r Q text
Writes-map (Ok done) P Q f text h = f text h
Writes-map (Err Read) P Q f text h = h
Writes-map (Err Write) P Q f text h = (h.0, f (text ++ h.0) h.1)
Writes-map (Err Memory) P Q f text h = h

-- the first of two parts, where it was not written
pub WritesPart-first : (e : Fault) (bytes end text : List ℕ) → WritesPart e (λ whole. whole ≡ bytes) text
    → WritesPart e (λ whole. whole ≡ bytes ++ end) text
WritesPart-first Read bytes end text h = h
WritesPart-first Write bytes end text h = (h.0 ++ end, sym (append_assoc text h.0 end) ∙ ap (λ l. l ++ end) h.1)
WritesPart-first Memory bytes end text h = h

-- the second of two parts, where the first was written
pub Writes-second : {A : Type 0} (r : Result A Fault) (bytes end text : List ℕ) → IfErr r (λ e. e ≡ Write)
    → Writes r (λ whole. whole ≡ end) text → Writes r (λ whole. whole ≡ bytes ++ end) (bytes ++ text)
Writes-second (Ok done) bytes end text e h = ap (λ l. bytes ++ l) h
Writes-second (Err Read) bytes end text e h = absurd h
Writes-second (Err Write) bytes end text e h = (h.0, append_assoc bytes text h.0 ∙ ap (λ l. bytes ++ l) h.1)
Writes-second (Err Memory) bytes end text e h = let no : Memory ≡ Write = e in cc

-- all that one stream is given, where only a write to another may have failed
pub Writes-whole : {A : Type 0} (r : Result A Fault) (P : List ℕ → Type 0) (text : List ℕ) → IfErr r (λ e. e ≡ Write)
    → P text → Writes r P text
Writes-whole (Ok done) P text e h = h
Writes-whole (Err Read) P text e h = let no : Read ≡ Write = e in cc
Writes-whole (Err Write) P text e h = ([], subst P (sym (append-nil text)) h)
Writes-whole (Err Memory) P text e h = let no : Memory ≡ Write = e in cc

-- nothing, where a fault came before the first byte
pub WritesPart-nothing : (e : Fault) (out err : FailureFlag) (P : List ℕ → Type 0) (whole : List ℕ) → P whole
    → SetsFlagOf e no_stream out err → WritesPart e P []
WritesPart-nothing Read out err P whole h marks = let no : false ≡ true = marks.0 in cc
WritesPart-nothing Write out err P whole h marks = (whole, h)
WritesPart-nothing Memory out err P whole h marks = refl
