-- What a sink took, piece by piece.
use Rattle.std.proofs.Common.{◌≡◌, ℕ, List, [], ◌++◌, sym, ap, ◌∙◌, append_assoc, append-nil}
use Rattle.std.proofs.Common.{Option, Some, None}
use Rattle.std.specs.Io.KnownBytes.{Appends, Keeps}
use Rattle.dpx_base.specs.Transfer.{AppendsFront}

pub appends_none : (told : Option (List ℕ)) → Appends told told []
appends_none None = tt
appends_none (Some bytes) = sym (append-nil bytes)

pub appends_more : (before middle now : Option (List ℕ)) (xs ys : List ℕ)
    → Appends before middle xs → Appends middle now ys → Appends before now (xs ++ ys)
appends_more None middle now xs ys a b = tt
appends_more (Some all) None now xs ys a b = absurd a
appends_more (Some all) (Some more) None xs ys a b = absurd b
appends_more (Some all) (Some more) (Some most) xs ys a b = b ∙ (ap (λ zs. zs ++ ys) a ∙ append_assoc all xs ys)

pub appends_kept : (before middle now : Option (List ℕ)) (xs : List ℕ)
    → Appends before middle xs → Keeps middle now → Appends before now xs
appends_kept None middle now xs a b = tt
appends_kept (Some all) None now xs a b = absurd a
appends_kept (Some all) (Some more) None xs a b = absurd b
appends_kept (Some all) (Some more) (Some most) xs a b = b ∙ a

-- all of them is a front of more
pub all_front : (before now : Option (List ℕ)) (xs rest all : List ℕ) → all ≡ xs ++ rest → Appends before now xs
    → AppendsFront before now all
all_front before now xs rest all e a = record { front = xs; rest = rest; divided = e; taken = a }

-- a front behind what was taken, where more comes behind
pub front_more : (before middle now : Option (List ℕ)) (xs ys rest all : List ℕ) → all ≡ (xs ++ ys) ++ rest
    → Appends before middle xs → AppendsFront middle now ys → AppendsFront before now all
front_more before middle now xs ys rest all e a f =
    let g : List ℕ → List ℕ = λ l. (xs ++ l) ++ rest in
    record {
      front = xs ++ f.front;
      rest = f.rest ++ rest;
      divided = e ∙ (ap g f.divided ∙ (ap (λ l. l ++ rest) (sym (append_assoc xs f.front f.rest))
          ∙ append_assoc (xs ++ f.front) f.rest rest));
      taken = appends_more before middle now xs f.front a f.taken;
    }
