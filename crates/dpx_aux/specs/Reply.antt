-- Replies to native AUX requests: VESA DisplayPort 1.4a, AUX reply commands. That a read's acknowledgement has
-- exactly the bytes asked for is this project's own.
use Rattle.std.specs.Prelude.{ℕ, ◌==◌, nat_lt, if◌then◌else◌, List, [], ◌∷◌, length}
use Rattle.dpx_aux.specs.declared.request.Request.{Request}
use Rattle.dpx_aux.specs.declared.request.Request.TheVariants.{Read, Write}
use Rattle.dpx_aux.specs.declared.reply.Reply.{Reply}
use Rattle.dpx_aux.specs.declared.reply.Reply.TheVariants.{Ack, Nack, Defer, Malformed}
use Rattle.dpx_aux.specs.Request.{answered_length}

-- 00, and behind it what was asked for; nothing for a write
abbrev pub acknowledged : Request → List ℕ → Reply
acknowledged request payload = if length payload == answered_length request then Ack payload else Malformed

-- 10, and behind it perhaps how many bytes of a write were taken: fewer than it has
abbrev pub nacked : Request → List ℕ → Reply
nacked request [] = Nack 0
nacked (Read address count) (taken ∷ rest) = Malformed
nacked (Write address bytes) (taken ∷ []) = if nat_lt taken (length bytes) then Nack taken else Malformed
nacked (Write address bytes) (taken ∷ more ∷ rest) = Malformed

-- 20, with nothing behind it
abbrev pub deferral : List ℕ → Reply
deferral [] = Defer
deferral (more ∷ rest) = Malformed

-- what the bytes of a reply say to a request; whatever is in no row is malformed
abbrev pub read_reply : Request → List ℕ → Reply
read_reply request [] = Malformed
read_reply request (code ∷ rest) =
    if code == 0x00 then acknowledged request rest
    else if code == 0x10 then nacked request rest
    else if code == 0x20 then deferral rest
    else Malformed
