-- The lock is one clock, and a lane's first group from a clock on starts at one.
use Rattle.std.proofs.Common.{◌≡◌, ℕ, inl, inr, List}
use Rattle.std.proofs.lemmas.Bool.{cases_order}
use Rattle.dpx_base.specs.declared.sym.Sym.{Sym}
use Rattle.dpx_align.specs.Lock.{IsLock, FirstFrom}

pub lock_once : (group : List Sym) (lanes : List (List Sym)) (m n : ℕ) → IsLock group lanes m → IsLock group lanes n
    → m ≡ n
lock_once group lanes m n a b =
    elim (cases_order m n) [
      | inl e ↦ e
      | inr o ↦ elim o [ inl l ↦ absurd (b.least m l a.meets) | inr l ↦ absurd (a.least n l b.meets) ]
    ]

pub first_once : (group lane : List Sym) (m g h : ℕ) → FirstFrom group lane m g → FirstFrom group lane m h → g ≡ h
first_once group lane m g h a b =
    elim (cases_order g h) [
      | inl e ↦ e
      | inr o ↦ elim o [ inl l ↦ absurd (b.first g a.from l a.there) | inr l ↦ absurd (a.first h b.from l b.there) ]
    ]
