-- What contracts see of an object before a call and after it: this project's own.

pub record Step (Seen : Type 0) : Type 0 where
  pub before : Seen
  pub now : Seen

infix 4 ◌⇒◌
abbrev pub ◌⇒◌ : {Seen : Type 0} → Seen → Seen → Step Seen
before ⇒ now = record { before = before; now = now }
