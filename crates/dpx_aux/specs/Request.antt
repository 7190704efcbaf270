-- Native AUX requests: VESA DisplayPort 1.4a, AUX transaction syntax.
use Rattle.std.specs.Prelude.{ℕ, ◌+◌, ◌-◌, ◌*◌, ◌/◌, ◌%◌, ◌^◌, ◌≤◌, ◌==◌, ◌&&◌, nat_le, if◌then◌else◌, List, [], ◌∷◌}
use Rattle.std.specs.Prelude.{◌++◌, length, Result, Ok, Err}
use Rattle.dpx_aux.specs.declared.request.Request.{Request}
use Rattle.dpx_aux.specs.declared.request.Request.TheVariants.{Read, Write}
use Rattle.dpx_aux.specs.declared.request.AuxBad.{AuxBad}
use Rattle.dpx_aux.specs.declared.request.AuxBad.TheVariants.{BadLength, BadCommand, BadAddress}

abbrev pub address_of : Request → ℕ
address_of (Read address count) = address
address_of (Write address bytes) = address

-- how many bytes a request asks for or brings
abbrev pub length_of : Request → ℕ
length_of (Read address count) = count
length_of (Write address bytes) = length bytes

-- how many bytes an acknowledgement brings
abbrev pub answered_length : Request → ℕ
answered_length (Read address count) = count
answered_length (Write address bytes) = 0

-- 1 to 16 bytes, which lie within the 20 bits of an address
pub record IsValid (request : Request) : Type 0 where
  pub some : 1 ≤ length_of request
  pub few : length_of request ≤ 16
  pub within : address_of request + length_of request ≤ 2 ^ 20

-- the command and address bits 19 to 16; bits 15 to 8; bits 7 to 0; the length less one
abbrev pub header : ℕ → ℕ → ℕ → List ℕ
header command address count =
    (command * 16 + address / 2 ^ 16) ∷ (address / 2 ^ 8 % 2 ^ 8) ∷ (address % 2 ^ 8) ∷ (count - 1) ∷ []

-- a read is command 9, a write is command 8 with its bytes behind
abbrev pub encode_request : Request → List ℕ
encode_request (Read address count) = header 9 address count
encode_request (Write address bytes) = header 8 address (length bytes) ++ bytes

-- the address in the first three bytes
abbrev pub address_in : ℕ → ℕ → ℕ → ℕ
address_in first middle low = first % 16 * 2 ^ 16 + middle * 2 ^ 8 + low

-- the request, if its bytes end within the addresses
abbrev pub within_addresses : Request → Result Request AuxBad
within_addresses request =
    if nat_le (address_of request + length_of request) (2 ^ 20) then Ok request
    else Err (BadAddress (address_of request))

-- a read has nothing behind its length, and asks for 1 to 16 bytes
abbrev pub read_from : ℕ → ℕ → List ℕ → Result Request AuxBad
read_from address last payload =
    if nat_le last 15 && length payload == 0 then within_addresses (Read address (last + 1))
    else Err (BadLength (length payload + 4))

-- a write has as many bytes as its length says, 1 to 16
abbrev pub write_from : ℕ → ℕ → List ℕ → Result Request AuxBad
write_from address last payload =
    if nat_le last 15 && length payload == last + 1 then within_addresses (Write address payload)
    else Err (BadLength (length payload + 4))

-- what bytes stand for, or the first fault
abbrev pub read_request : List ℕ → Result Request AuxBad
read_request [] = Err (BadLength 0)
read_request (a ∷ []) = Err (BadLength 1)
read_request (a ∷ b ∷ []) = Err (BadLength 2)
read_request (a ∷ b ∷ c ∷ []) = Err (BadLength 3)
read_request (first ∷ middle ∷ low ∷ last ∷ payload) =
    if first / 16 == 8 then write_from (address_in first middle low) last payload
    else if first / 16 == 9 then read_from (address_in first middle low) last payload
    else Err (BadCommand first)
