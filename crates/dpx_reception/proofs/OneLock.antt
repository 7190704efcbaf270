-- Bytes without a word fault have one lock, or none.
use Rattle.std.proofs.Common.{◌≡◌, ℕ, Bool, List, Option, Some, None, refl, ap, subst}
use Rattle.dpx_base.specs.Lanes.{lanes_count}
use Rattle.dpx_base.specs.declared.sym.Sym.{Sym}
use Rattle.dpx_align.specs.Lock.{sr_group}
use Rattle.dpx_align.proofs.Once.{lock_once}
use Rattle.dpx_align.proofs.OneFault.{symbols_are_one}
use Rattle.dpx_reception.specs.Bytes.{received_words}
use Rattle.dpx_reception.specs.Laws.{IsOneLock}
use Rattle.dpx_reception.specs.Reception.{LockIs}

lock_is_one : (enhanced : Bool) (plain : List (List Sym)) (lock other : Option ℕ) → LockIs enhanced plain lock
    → LockIs enhanced plain other → lock ≡ other
lock_is_one enhanced plain None None h k = refl
lock_is_one enhanced plain None (Some m) h k = absurd (h m k)
lock_is_one enhanced plain (Some m) None h k = absurd (k m h)
lock_is_one enhanced plain (Some m) (Some n) h k = ap Some (lock_once (sr_group enhanced) plain m n h k)

pub one_lock : IsOneLock
one_lock link bytes lock other a b =
    let e = symbols_are_one (received_words (lanes_count link.lanes) bytes) a.plain b.plain a.symbols b.symbols in
    lock_is_one link.enhanced b.plain lock other
    (subst (λ (x : List (List Sym)). LockIs link.enhanced x lock) e a.lock_is) b.lock_is
