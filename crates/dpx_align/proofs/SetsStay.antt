-- A set stays, as clocks are added.
use Rattle.std.proofs.Common.{ℕ, ◌<◌, ◌+◌, ◌++◌, List, length, sym, subst, ◌∙◌, arith}
use Rattle.std.specs.Prelude.{slice_index_or}
use Rattle.std.proofs.lemmas.Option.{slice_get_within}
use Rattle.circular_buffer.proofs.Places.{slice_get-append_left}
use Rattle.dpx_base.specs.declared.sym.Sym.{Sym}
use Rattle.dpx_align.specs.Laws.{SetsStay}
use Rattle.dpx_align.specs.Lock.{sr_group, lane_of, SymbolOf}
use Rattle.dpx_align.proofs.Answered.{some_group}
use Rattle.dpx_align.proofs.LockStays.{lane_of-lengthened, length-lengthened, lock_on}
use Rattle.dpx_align.proofs.Steps.{first_on}

symbol_on : (group lane more : List Sym) (m s : ℕ) (symbol : Sym) → 0 < length group
    → SymbolOf group lane m s symbol → SymbolOf group (lane ++ more) m s symbol
symbol_on group lane more m s symbol some h = record {
  start = h.start;
  starts = first_on group lane more m h.start some h.starts;
  there = slice_get-append_left lane more (h.start + s) (slice_get_within lane (h.start + s) symbol h.there) ∙ h.there;
}

pub sets_stay : SetsStay
sets_stay enhanced plain more s set h =
    let group = sr_group enhanced in
    let size = length-lengthened plain more in
    record {
      at = h.at;
      lock = lock_on group plain more h.at (some_group enhanced) h.lock;
      size = h.size ∙ sym size;
      symbols = λ j d l.
          let i : j < length plain = omega (arith, l, size) in
          subst (λ (x : List Sym). SymbolOf group x h.at s (slice_index_or set j d))
          (sym (lane_of-lengthened plain more j i))
          (symbol_on group (lane_of plain j) (lane_of more j) h.at s (slice_index_or set j d) (some_group enhanced)
          (h.symbols j d i));
    }
