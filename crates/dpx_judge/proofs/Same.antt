-- Parts of a conversation that are the same: how the combinators keep that, and regroup.
use Rattle.std.proofs.Common.{◌≡◌, Bool, true, false, List, [], ◌++◌, refl, sym, ap, ◌∙◌, subst, append_assoc}
use Rattle.std.proofs.Common.{Result, Ok, Err, MatchResult}
use Rattle.std.proofs.lemmas.List.{append-nil}
use Rattle.dpx_base.specs.declared.aux_port.Entry.{Entry}
use Rattle.dpx_aux.specs.Conversation.{Ends, Choice, ◌>>=◌}
use Rattle.dpx_judge.specs.Remainder.{Same}

pub same : {R : Type 0} (part : R → List Entry → Type 0) → Same part part
same part = record { to = λ given history p. p; from = λ given history p. p }

pub same_through : {R : Type 0} {P Q S : R → List Entry → Type 0} → Same P Q → Same Q S → Same P S
same_through a b = record {
  to = λ given history p. b.to given history (a.to given history p);
  from = λ given history s. a.from given history (b.from given history s);
}

pub same_back : {R : Type 0} {P Q : R → List Entry → Type 0} → Same P Q → Same Q P
same_back a = record { to = a.from; from = a.to }

-- one part for another, behind the same first result
next_to : {A B E : Type 0} {f g : A → Result B E → List Entry → Type 0} → ((value : A) → Same (f value) (g value))
    → (middle : Result A E) (given : Result B E) (back : List Entry)
    → MatchResult middle (λ value. f value given back) (λ error. (given ≡ Err error) × (back ≡ []))
    → MatchResult middle (λ value. g value given back) (λ error. (given ≡ Err error) × (back ≡ []))
next_to s (Ok value) given back on = (s value).to given back on
next_to s (Err error) given back on = on

pub then_same : {A B E : Type 0} {P Q : Result A E → List Entry → Type 0} {f g : A → Result B E → List Entry → Type 0}
    → Same P Q → ((value : A) → Same (f value) (g value)) → Same (P >>= f) (Q >>= g)
then_same a s = record {
  to = λ given history t. record {
    middle = t.middle;
    front = t.front;
    back = t.back;
    joined = t.joined;
    begins = a.to t.middle t.front t.begins;
    goes_on = next_to s t.middle given t.back t.goes_on;
  };
  from = λ given history t. record {
    middle = t.middle;
    front = t.front;
    back = t.back;
    joined = t.joined;
    begins = a.from t.middle t.front t.begins;
    goes_on = next_to (λ value. same_back (s value)) t.middle given t.back t.goes_on;
  };
}

-- the same first part
pub then_next : {A B E : Type 0} (P : Result A E → List Entry → Type 0) {f g : A → Result B E → List Entry → Type 0}
    → ((value : A) → Same (f value) (g value)) → Same (P >>= f) (P >>= g)
then_next P s = then_same (same P) s

-- the same next part
pub then_first : {A B E : Type 0} {P Q : Result A E → List Entry → Type 0} (f : A → Result B E → List Entry → Type 0)
    → Same P Q → Same (P >>= f) (Q >>= f)
then_first f a = then_same a (λ value. same (f value))

-- a part that gives a value at once
ended_to : {A B E : Type 0} (f : A → Result B E → List Entry → Type 0) (value : A) (middle : Result A E)
    (given : Result B E) (history front back : List Entry) → history ≡ front ++ back → middle ≡ Ok value → front ≡ []
    → MatchResult middle (λ v. f v given back) (λ error. (given ≡ Err error) × (back ≡ []))
    → f value given history
ended_to f value (Ok v) given history front back joined ok none on =
    let v' : v ≡ value = cc in
    let h : back ≡ history = sym (joined ∙ ap (λ xs. xs ++ back) none) in
    subst (λ h. f value given h) h (subst (λ x. f x given back) v' on)
ended_to f value (Err error) given history front back joined ok none on = absurd (cc)

pub ends_then : {A B E : Type 0} (value : A) (f : A → Result B E → List Entry → Type 0)
    → Same (Ends (Ok value) >>= f) (f value)
ends_then value f = record {
  to = λ given history t.
      ended_to f value t.middle given history t.front t.back t.joined t.begins.same t.begins.nothing t.goes_on;
  from = λ given history p. record {
    middle = Ok value;
    front = [];
    back = history;
    joined = refl;
    begins = record { same = refl; nothing = refl };
    goes_on = p;
  };
}

-- a part that fails at once
failed_to : {A B E : Type 0} (f : A → Result B E → List Entry → Type 0) (why : E) (middle : Result A E)
    (given : Result B E) (history front back : List Entry) → history ≡ front ++ back → middle ≡ Err why → front ≡ []
    → MatchResult middle (λ v. f v given back) (λ error. (given ≡ Err error) × (back ≡ []))
    → Ends (Err why) given history
failed_to f why (Ok v) given history front back joined failed none on = absurd (cc)
failed_to f why (Err error) given history front back joined failed none on =
    let e : error ≡ why = cc in
    record {
      same = on.0 ∙ ap (λ x. Err x) e;
      nothing = joined ∙ ap (λ xs. xs ++ back) none ∙ on.1;
    }

pub fails_then : {A B E : Type 0} (why : E) (f : A → Result B E → List Entry → Type 0)
    → Same (Ends (Err why) >>= f) (Ends (Err why))
fails_then why f = record {
  to = λ given history t.
      failed_to f why t.middle given history t.front t.back t.joined t.begins.same t.begins.nothing t.goes_on;
  from = λ given history p. record {
    middle = Err why;
    front = [];
    back = history;
    joined = refl;
    begins = record { same = refl; nothing = refl };
    goes_on = (p.same, p.nothing);
  };
}

-- three parts, grouped to the right
right_to : {A B C E : Type 0} (f : A → Result B E → List Entry → Type 0) (g : B → Result C E → List Entry → Type 0)
    (first : Result A E) (middle : Result B E) (given : Result C E) (back rest : List Entry)
    → MatchResult first (λ value. f value middle back) (λ error. (middle ≡ Err error) × (back ≡ []))
    → MatchResult middle (λ value. g value given rest) (λ error. (given ≡ Err error) × (rest ≡ []))
    → MatchResult first (λ value. (f value >>= g) given (back ++ rest))
    (λ error. (given ≡ Err error) × (back ++ rest ≡ []))
right_to f g (Ok value) middle given back rest a b = record {
  middle = middle;
  front = back;
  back = rest;
  joined = refl;
  begins = a;
  goes_on = b;
}
right_to f g (Err error) (Ok value) given back rest a b = absurd (let e = a.0 in cc)
right_to f g (Err error) (Err why) given back rest a b =
    let e : why ≡ error = (let m = a.0 in cc) in
    (b.0 ∙ ap (λ x. Err x) e, ap (λ xs. xs ++ rest) a.1 ∙ b.1)

left_to : {A B C E : Type 0} {P : Result A E → List Entry → Type 0} (f : A → Result B E → List Entry → Type 0)
    (g : B → Result C E → List Entry → Type 0) (first : Result A E) (given : Result C E)
    (history front back : List Entry) → history ≡ front ++ back → P first front
    → MatchResult first (λ value. (f value >>= g) given back) (λ error. (given ≡ Err error) × (back ≡ []))
    → ((P >>= f) >>= g) given history
left_to f g (Ok value) given history front back joined p on = record {
  middle = on.middle;
  front = front ++ on.front;
  back = on.back;
  joined = joined ∙ ap (λ xs. front ++ xs) on.joined ∙ sym (append_assoc front on.front on.back);
  begins = record {
    middle = Ok value;
    front = front;
    back = on.front;
    joined = refl;
    begins = p;
    goes_on = on.begins;
  };
  goes_on = on.goes_on;
}
left_to f g (Err error) given history front back joined p on = record {
  middle = Err error;
  front = history;
  back = [];
  joined = sym (append-nil history);
  begins = record {
    middle = Err error;
    front = front;
    back = back;
    joined = joined;
    begins = p;
    goes_on = (refl, on.1);
  };
  goes_on = (on.0, refl);
}

pub regroup : {A B C E : Type 0} (P : Result A E → List Entry → Type 0) (f : A → Result B E → List Entry → Type 0)
    (g : B → Result C E → List Entry → Type 0) → Same ((P >>= f) >>= g) (P >>= λ value. f value >>= g)
regroup P f g = record {
  to = λ given history t. record {
    middle = t.begins.middle;
    front = t.begins.front;
    back = t.begins.back ++ t.back;
    joined = t.joined ∙ ap (λ xs. xs ++ t.back) t.begins.joined
        ∙ append_assoc t.begins.front t.begins.back t.back;
    begins = t.begins.begins;
    goes_on = right_to f g t.begins.middle t.middle given t.begins.back t.back t.begins.goes_on t.goes_on;
  };
  from = λ given history t. left_to f g t.middle given history t.front t.back t.joined t.begins t.goes_on;
}

-- a choice whose test is known
pub choose_yes : {R : Type 0} {yes no : R → List Entry → Type 0} (test : Bool) → test ≡ true
    → Same (Choice test yes no) yes
choose_yes test e = record {
  to = λ given history c. c.if_true e;
  from = λ given history y. record { if_true = λ t. y; if_false = λ f. absurd (cc) };
}

pub choose_no : {R : Type 0} {yes no : R → List Entry → Type 0} (test : Bool) → test ≡ false
    → Same (Choice test yes no) no
choose_no test e = record {
  to = λ given history c. c.if_false e;
  from = λ given history n. record { if_true = λ t. absurd (cc); if_false = λ f. n };
}
