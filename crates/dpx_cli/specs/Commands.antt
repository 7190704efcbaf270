-- Which command the words ask for.
use Rattle.std.specs.Prelude.{◌≡◌, ℕ, List, None, IsSomeAnd, String, ⊤}
use Rattle.std.specs.declared.alloc.Global.{Global}
use Rattle.dpx_words.specs.declared.command.Command.{Command}
use Rattle.dpx_words.specs.declared.command.Command.TheVariants.{Train, Send, Run, Recv, Gen, Edid, Watch, Judge}
use Rattle.dpx_words.specs.Reading.{command_in}

-- the words have a reading, a command of this kind
abbrev pub Ask : (Command → Type 0) → List (String Global) → Type 0
Ask IsOfKind words = IsSomeAnd (command_in words) IsOfKind

-- the words have no reading
abbrev pub NoReading : List (String Global) → Type 0
NoReading words = command_in words ≡ None

abbrev pub IsTrain : Command → Type 0
IsTrain (Train job) = ⊤
IsTrain other = ⊥

abbrev pub IsSend : Command → Type 0
IsSend (Send job pixels capture workers) = ⊤
IsSend other = ⊥

abbrev pub IsRun : Command → Type 0
IsRun (Run job pixels capture workers) = ⊤
IsRun other = ⊥

abbrev pub IsRecv : Command → Type 0
IsRecv (Recv capture pixels workers) = ⊤
IsRecv other = ⊥

-- the frames of this number
abbrev pub IsGen : (seed : ℕ) → Command → Type 0
IsGen seed (Gen number workers) = number ≡ seed
IsGen seed other = ⊥

abbrev pub IsEdid : Command → Type 0
IsEdid (Edid job) = ⊤
IsEdid other = ⊥

abbrev pub IsWatch : Command → Type 0
IsWatch (Watch job) = ⊤
IsWatch other = ⊥

abbrev pub IsJudge : Command → Type 0
IsJudge (Judge job) = ⊤
IsJudge other = ⊥
