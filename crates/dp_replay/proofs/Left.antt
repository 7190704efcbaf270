-- What is left of a source, behind what was read of it and waits.
use Rattle.std.proofs.Common.{◌≡◌, ℕ, ◌+◌, ◌-◌, ◌≤◌, List, [], ◌++◌, length, take, drop, Option, sym, ap}
use Rattle.std.proofs.Common.{◌∙◌, arith, subst}
use Rattle.std.proofs.lemmas.List.{take_at, drop-drop, length-take, length-drop, take-append-le}
use Rattle.std.proofs.Math.Seq.{take-add, take-append-add}
use Rattle.std.specs.Io.KnownBytes.{Consumes, IsAtEnd, Keeps, prepend_known}
use Rattle.std.proofs.KnownBytes.{prepend_known-read}
use Rattle.dpx_base.specs.Seen.{SourceSeen}
use borrow.Rule.Slice.PartMut.{put_mid, post_of}
use Rattle.dp_replay.specs.Records.{RecordsSeen, left_of}

-- the front of a piece that is handed over, and the rest
pub waiting_taken : (start end count : ℕ) (piece copied behind : List ℕ) → start + count ≤ end → end ≤ length piece
    → copied ≡ take count (drop start piece)
    → take (end - start) (drop start piece)
    ≡ take count (copied ++ behind) ++ take (end - (start + count)) (drop (start + count) piece)
waiting_taken start end count piece copied behind within room same =
    let rest = end - (start + count) in
    let long : length copied ≡ count = ap length same ∙ simp (length-take, length-drop) (omega arith) in
    let split : end - start ≡ count + rest = omega arith in
    ap (λ (n : ℕ). take n (drop start piece)) split
    ∙ (take-add count rest (drop start piece)
    ∙ (ap (λ (xs : List ℕ). xs ++ take rest (drop count (drop start piece)))
    (sym (take_at copied behind count long ∙ same))
    ∙ ap (λ (xs : List ℕ). take count (copied ++ behind) ++ take rest xs) (drop-drop count start piece)))

-- what was read on, and then handed over
pub read_taken : (before now : RecordsSeen) (bytes : List ℕ) (first : Option (List ℕ)) (None_ : Type 0)
    → Keeps first (left_of before) → before.waiting ≡ bytes ++ now.waiting → now.source ≡ before.source
    → (None_ → (now.waiting ≡ []) × IsAtEnd now.source.left)
    → Consumes first (left_of now) bytes × (None_ → IsAtEnd (left_of now))
read_taken before now bytes first None_ kept taken same end =
    prepend_known-read first now.source.left before.waiting now.waiting bytes None_
    (subst (λ (source : SourceSeen). Keeps first (prepend_known before.waiting source.left)) (sym same) kept) taken end

-- bytes put behind those that a record has
pub record_more : (bytes new : List ℕ) (have count : ℕ) → have ≤ length bytes → count ≤ length new
    → take (have + count) (put_mid have (6 - have) bytes new) ≡ take have bytes ++ take count new
record_more bytes new have count some few =
    let size : length (take have bytes) ≡ have = simp length-take (omega arith) in
    ap (λ (n : ℕ). take (n + count) (put_mid have (6 - have) bytes new)) (sym size)
    ∙ (take-append-add (take have bytes) (new ++ post_of have (6 - have) bytes) count
    ∙ ap (λ (xs : List ℕ). take have bytes ++ xs) (take-append-le count new _ few))
