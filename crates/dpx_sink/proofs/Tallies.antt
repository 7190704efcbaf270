-- Whole frames, as they are counted.
use Rattle.std.proofs.Common.{ℕ, ◌≡◌, ◌∙◌, ◌≤◌, ◌+◌, Bool, true, false, Option, Some, None, sym, ap, arith}
use Rattle.std.specs.Prelude.{if◌then◌else◌, ◌==◌}
use Rattle.std.proofs.lemmas.Bool.Decides.{nat_tests}
use Rattle.dpx_msa.specs.declared.attributes.Attributes.{Attributes}
use Rattle.dpx_parse.specs.Stands.{number_of}
use Rattle.dpx_sink.specs.Line.{Holds}
use Rattle.dpx_sink.specs.Told.{Under, none, idle, live, Tally, frames_in}
use Rattle.dpx_sink.specs.declared.lines.Lines.{Lines}

same : (a b : Attributes) → ◌≡◌ {A = Option Attributes} (Some a) (Some b) → a ≡ b
same a b e = cc

exact : (n h : ℕ) → h ≤ 8192 → number_of n ≡ h → n ≡ h
exact n h l e = omega (arith, l, e)

counted : (b : Bool) (n : ℕ) (closed more : ℕ) → b ≡ true → closed ≡ number_of n → more ≡ number_of (closed + 1)
    → more ≡ number_of (n + (if b then 1 else 0))
counted true n closed more t e h = h ∙ omega (arith, e)
counted false n closed more t e h = absurd (cc)

is_equal : (n h : ℕ) → n ≡ h → (n == h) ≡ true
is_equal n h e = grind (arith, nat_tests)

-- the last frame is whole
pub one_more : (l : Lines) (a : Attributes) (more : ℕ) (under : Under) (t : Tally) → l.attributes ≡ Some a
    → l.current ≡ a.height → more ≡ number_of (l.closed + 1) → Holds l under t → more ≡ number_of (frames_in under t)
one_more l a more none t is whole m h = absurd (nothing (sym is ∙ h.line.0))
  where
    nothing : ◌≡◌ {A = Option Attributes} (Some a) None → ⊥
    nothing e = cc
one_more l a more (idle b) t is whole m h =
    let e : a ≡ b = same a b (sym is ∙ h.line.0) in
    let n : t.current ≡ b.height =
    exact t.current b.height h.line.2.1 (sym h.current ∙ (whole ∙ ap (λ (x : Attributes). x.height) e)) in
    counted (t.current == b.height) t.closed l.closed more (is_equal t.current b.height n) h.closed m
one_more l a more (live b rows) t is whole m h =
    let e : a ≡ b = same a b (sym is ∙ h.line.0) in
    let n : t.current ≡ b.height =
    exact t.current b.height h.line.2.1 (sym h.current ∙ (whole ∙ ap (λ (x : Attributes). x.height) e)) in
    counted (t.current == b.height) t.closed l.closed more (is_equal t.current b.height n) h.closed m
