-- The parts of a conversation, call by call, and what the answers decide.
use Rattle.std.proofs.Common.{◌≡◌, ℕ, Bool, true, false, List, [], ◌∷◌, ◌++◌, refl, sym, Result, Ok, Err}
use Rattle.std.proofs.lemmas.List.{append-nil}
use Rattle.dpx_base.specs.declared.aux_port.Entry.{Entry}
use Rattle.dpx_base.specs.declared.aux_port.Entry.TheVariants.{Waited}
use Rattle.dpx_base.specs.Port.{PortState, Added}
use Rattle.dpx_base.proofs.Port.{Added-append, Added-nothing}
use Rattle.dpx_aux.specs.Conversation.{Converses, Ends, Waits, ◌>>=◌, Choice}

-- a call that asked nothing
pub ends : {Plan R : Type 0} (state : PortState Plan) (value : R) → Converses (Ends value) state state value
ends state value = record { entries = []; added = Added-nothing state; done = record { same = refl; nothing = refl } }

-- a wait
pub waits : {Plan E : Type 0} {before now : PortState Plan} {micros : ℕ} → Added (Waited micros ∷ []) before now
    → Converses (Waits {E = E} micros) before now (Ok tt)
waits {micros = micros} a = record {
  entries = Waited micros ∷ [];
  added = a;
  done =
      record { done = refl; waited = refl };
}

-- the first part gave a value, and the next part went on from there
pub then_ok : {Plan A B E : Type 0} {before middle now : PortState Plan} {first : Result A E → List Entry
    → Type 0} {next : A → Result B E → List Entry → Type 0} {value : A} {given : Result B E}
    → Converses first before middle (Ok value) → Converses (next value) middle now given
    → Converses (first >>= next) before now given
then_ok {value = value} a b = record {
  entries = a.entries ++ b.entries;
  added = Added-append a.added b.added;
  done = record {
    middle = Ok value;
    front = a.entries;
    back = b.entries;
    joined = refl;
    begins = a.done;
    goes_on =
        b.done;
  };
}

-- the first part failed, and nothing follows
pub then_err : {Plan A B E : Type 0} {before now : PortState Plan} {first : Result A E → List Entry → Type 0} {next : A
    → Result B E → List Entry → Type 0} {error : E} → Converses first before now (Err error)
    → Converses (first >>= next) before now (Err error)
then_err {error = error} a = record {
  entries = a.entries;
  added = a.added;
  done = record {
    middle = Err error;
    front = a.entries;
    back = [];
    joined = sym (append-nil a.entries);
    begins =
        a.done;
    goes_on = (refl, refl);
  };
}

-- the part that the test chose
pub choose_true : {Plan R : Type 0} {before now : PortState Plan} {test : Bool} {yes no : R → List Entry
    → Type 0} {given : R} → test ≡ true → Converses yes before now given
    → Converses (Choice test yes no) before now given
choose_true e a = record {
  entries = a.entries;
  added = a.added;
  done =
      record { if_true = λ _. a.done; if_false = λ f. absurd (cc) };
}

pub choose_false : {Plan R : Type 0} {before now : PortState Plan} {test : Bool} {yes no : R → List Entry
    → Type 0} {given : R} → test ≡ false → Converses no before now given
    → Converses (Choice test yes no) before now given
choose_false e a = record {
  entries = a.entries;
  added = a.added;
  done =
      record { if_true = λ t. absurd (cc); if_false = λ _. a.done };
}
