-- 01, "What a frame shows", SOME/IP, as change request 3/12 has it: in the UDP payload of len bytes from `at` on, in the frame s.
-- Assumes nothing.
use Rattle.std.specs.Prelude.{ℕ, zero, suc, ◌+◌, ◌-◌, List, [], ◌∷◌, Bool, true, false, cond, Option, None, Some, leb, eqb}
use Rattle.numbers.specs.Bytes.{byte, be16, be32}
use Rattle.numbers.specs.Lists.{every}
use Rattle.payloads.specs.declared.Transport.{Transport}
use Rattle.payloads.specs.declared.Transport.TheVariants as transport
use Rattle.payloads.specs.declared.Message.{Message}
use Rattle.payloads.specs.declared.Bundle.{Bundle}

-- 003, listing 5, from the header's start: the service id at 0, then these
abbrev pub method_at : ℕ
method_at = 2

abbrev pub length_at : ℕ
length_at = 4

abbrev pub version_at : ℕ
version_at = 12

abbrev pub kind_at : ℕ
kind_at = 14

abbrev pub code_at : ℕ
code_at = 15

-- the header's bytes; "Length at least 8"; a Length counts what follows it, so not the header's first 8 bytes
abbrev pub someip_bytes : ℕ
someip_bytes = 16

abbrev pub least_length : ℕ
least_length = 8

abbrev pub uncounted : ℕ
uncounted = 8

-- "Length", and so the bytes of the message at `at`
abbrev pub length_field : List ℕ → ℕ → ℕ
length_field s at = be32 s (at + length_at)

abbrev pub size_at : List ℕ → ℕ → ℕ
size_at s at = uncounted + length_field s at

-- "whole", and "with Length at least 8": such a message stands first in these bytes, and so its header's 16 bytes are among them
unfoldable pub message_tests : List ℕ → ℕ → ℕ → List Bool
message_tests s at len = leb (size_at s at) len ∷ leb least_length (length_field s at) ∷ []

unfoldable pub message_here : List ℕ → ℕ → ℕ → Bool
message_here s at len = every (message_tests s at len)

-- the message at `at`: service and method id, protocol version, message type, return code; where its header is, and its bytes
unfoldable pub message_at : List ℕ → ℕ → Message
message_at s at =
    record {
      service = be16 s at;
      method = be16 s (at + method_at);
      version = byte s (at + version_at);
      kind = byte s (at + kind_at);
      code = byte s (at + code_at);
      header = at;
      size = size_at s at;
    }

-- ---- 3/12: "the UDP payload cuts, with nothing left over, into one or more whole messages, each with Length at least 8"

-- what it cuts into, or that it does not cut
pub data Cut : Type 0 where
  Fails : Cut
  Into : List Message → Cut

-- a message, and what the bytes behind it cut into
abbrev pub with_first : Message → Cut → Cut
with_first m Fails = Fails
with_first m (Into ms) = Into (m ∷ ms)

-- "with nothing left over, into .. whole messages": no bytes are no messages; else a whole message stands first,
-- and what is behind it cuts into the others. At most n are cut off
unfoldable pub cut_by : ℕ → List ℕ → ℕ → ℕ → Cut
cut_by zero s at len = cond (eqb len 0) (Into []) Fails
cut_by (suc n) s at len =
    cond (eqb len 0) (Into [])
    (cond (message_here s at len)
    (with_first (message_at s at) (cut_by n s (at + size_at s at) (len - size_at s at)))
    Fails)

-- a message takes bytes, so len bytes are never more than len messages
abbrev pub cut : List ℕ → ℕ → ℕ → Cut
cut s at len = cut_by len s at len

-- it does cut; the messages, none where it does not
abbrev pub does_cut : Cut → Bool
does_cut Fails = false
does_cut (Into ms) = true

abbrev pub messages_in : Cut → List Message
messages_in Fails = []
messages_in (Into ms) = ms

-- ---- the layer

-- "present exactly when the UDP payload cuts", into "one or more": its bytes are then the bundle
abbrev pub present_if : ℕ → ℕ → Cut → Option Bundle
present_if at len Fails = None
present_if at len (Into []) = None
present_if at len (Into (m ∷ ms)) = Some (record { payload = at; plen = len })

unfoldable pub someip_at : List ℕ → ℕ → ℕ → Option Bundle
someip_at s at len = present_if at len (cut s at len)

-- 01: "SOME/IP is present if the transport is UDP", and ..
unfoldable pub someip_of : List ℕ → Transport → Option Bundle
someip_of s transport.Absent = None
someip_of s (transport.Tcp t) = None
someip_of s (transport.Udp u) = someip_at s u.payload u.plen

-- the messages of the layer, none where it is absent
abbrev pub messages_of : List ℕ → Option Bundle → List Message
messages_of s None = []
messages_of s (Some b) = messages_in (cut s b.payload b.plen)
