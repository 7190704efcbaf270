-- Where an entry stands, and what it says.
use Rattle.std.proofs.Common.{◌≡◌, ◌<◌, ◌%◌, ◌/◌, ℕ, IsTrue, nat_le, Bool, List, subst, sym, slice_index, Ok}
use Rattle.dpx_base.specs.Code.{Codes}
use Rattle.dpx_base.specs.declared.sym.Sym.{Sym}
use Rattle.dpx_code.specs.Decode.{decoded}
use Rattle.dpx_code.specs.declared.disparity.Rd.{Rd}
use Rattle.dpx_lane.specs.Codes.{is_code, symbol_of}
use Rattle.dpx_lane.specs.SymbolTable.{rd_numbered}
use Rattle.dpx_lane.specs.SymbolTable.{IsEntryAt as IsReadingAt, AreEntries as AreReadings}
use Rattle.dpx_lane.specs.WordTable.{IsEntry, IsEntryAt, AreEntries}

pub is_entry : (s : Sym) (code entry word : ℕ) (plus next : Bool) → Codes s plus word next → s ≡ symbol_of code
    → entry % 1024 ≡ word → nat_le 1024 entry ≡ next → IsEntry entry plus code
unfolding IsEntry
is_entry s code entry word plus next h e f g =
    subst (λ (n : Bool). Codes (symbol_of code) plus (entry % 1024) n) (sym g)
    (subst (λ (w : ℕ). Codes (symbol_of code) plus w next) (sym f)
    (subst (λ (t : Sym). Codes t plus word next) e h))

pub entry_there : (entries : List ℕ) (code : ℕ) (plus : Bool) (at : ℕ) → AreEntries entries → at < 1024
    → at % 512 ≡ code → nat_le 512 at ≡ plus → IsTrue (is_code code)
    → Codes (symbol_of code) plus (slice_index entries at % 1024) (nat_le 1024 (slice_index entries at))
unfolding IsEntryAt IsEntry
entry_there entries code plus at h below e f g =
    subst (λ (p : Bool). Codes (symbol_of code) p (slice_index entries at % 1024)
    (nat_le 1024 (slice_index entries at))) f
    (subst (λ (k : ℕ). Codes (symbol_of k) (nat_le 512 at) (slice_index entries at % 1024)
    (nat_le 1024 (slice_index entries at))) e
    (h.1 at below (subst (λ (k : ℕ). IsTrue (is_code k)) (sym e) g)))

-- what an entry says that is no refusal
abbrev Says : (entry word : ℕ) → Rd → Type 0
Says entry word rd = decoded word rd ≡ Ok (symbol_of (entry % 512), rd_numbered (entry / 512))

pub reading_there : (entries : List ℕ) (word : ℕ) (rd : Rd) (at : ℕ) → AreReadings entries → at < 3072
    → at % 1024 ≡ word → rd_numbered (at / 1024) ≡ rd → slice_index entries at < 65535
    → decoded word rd ≡ Ok (symbol_of (slice_index entries at % 512), rd_numbered (slice_index entries at / 512))
unfolding IsReadingAt
reading_there entries word rd at h below e f g =
    subst (λ (p : Rd). Says (slice_index entries at) word p) f
    (subst (λ (k : ℕ). Says (slice_index entries at) k (rd_numbered (at / 1024))) e (h.1 at below g))
