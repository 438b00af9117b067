-- Document 01, 'Worked set': M1 to M11 as the lines of a page, one for each frame.
-- Assumes nothing.
use Rattle.std.specs.Prelude.{ℕ, true, false, List, [], ◌∷◌}
use Rattle.paper.specs.declared.Expected.{Expected}
use Rattle.paper.specs.declared.Expected.TheVariants.{Refused, Quiet, Event}
use Rattle.paper.specs.declared.Frame.{Frame}
use Rattle.paper.specs.declared.Frame.TheVariants as frame
use Rattle.paper.specs.declared.Line.{Line}

-- ---- what is expected

-- "Verdicts 0, 1 and 2 have no event"
abbrev pub passed : ℕ → Expected
passed rule = Quiet 0 rule

abbrev pub blocked : ℕ → Expected
blocked rule = Quiet 2 rule

-- "3 gives event 64", "Event 63 stays" for 41, "5 gives 001's event for too many TCP connections": 61
abbrev pub over_rate : ℕ → Expected
over_rate rule = Event 3 rule 64 rule 10

abbrev pub no_conversation : ℕ → Expected
no_conversation rule = Event 41 rule 63 rule 4

abbrev pub no_place_free : ℕ → Expected
no_place_free rule = Event 5 rule 61 rule 28

-- "6 gives the mismatch event of the best fit": TCP 54, UDP 55, SOME/IP 56, and the rule that it names
abbrev pub mismatch_tcp : ℕ → Expected
mismatch_tcp named = Event 6 65535 54 named 28

abbrev pub mismatch_udp : ℕ → Expected
mismatch_udp named = Event 6 65535 55 named 12

abbrev pub mismatch_someip : ℕ → Expected
mismatch_someip named = Event 6 65535 56 named 20

-- ---- the lines

-- the first frame that a fresh record meets, and one that comes after another: the example's number, reading, frame, what is expected
abbrev pub begins : ℕ → ℕ → Frame → Expected → Line
begins n reading f x = record { example = n; fresh = true; reading = reading; frame = f; expected = x }

abbrev pub follows : ℕ → ℕ → Frame → Expected → Line
follows n reading f x = record { example = n; fresh = false; reading = reading; frame = f; expected = x }

unfoldable pub lines : List Line
lines =
    -- "M1 A: 0, rule 10. M2 A with four zero bytes added: the same."
    begins 1 0 frame.A (passed 10)
    ∷ begins 2 0 frame.Padded (passed 10)
    -- "M3 A with type 0x81: 6, SOME/IP event naming rule 10. M4 A less its last byte: 6, TCP event naming rule 20"
    ∷ begins 3 0 frame.Type81 (mismatch_someip 10)
    ∷ begins 4 0 frame.Cut (mismatch_tcp 20)
    -- "M5 ether 0x0806 at 0, 0, 0, 1000, 2000, 4000: verdicts 0 0 3 3 3 0"
    ∷ begins 5 0 frame.Ether0806 (passed 30)
    ∷ follows 5 0 frame.Ether0806 (passed 30)
    ∷ follows 5 0 frame.Ether0806 (over_rate 30)
    ∷ follows 5 1000 frame.Ether0806 (over_rate 30)
    ∷ follows 5 2000 frame.Ether0806 (over_rate 30)
    ∷ follows 5 4000 frame.Ether0806 (passed 30)
    -- "M6 valid TCP from 443: ACK first, 4; SYN+ACK then ACK, 0 and 0"; "M6's first becomes 41"
    ∷ begins 6 0 frame.Ack1 (no_conversation 20)
    ∷ follows 6 0 frame.SynAck1 (passed 20)
    ∷ follows 6 0 frame.Ack1 (passed 20)
    -- "M7 two held, a third SYN: 5. After 999 ms idle still held; after 1,000 removed, and the SYN passes."
    ∷ begins 7 0 frame.Syn1 (passed 20)
    ∷ follows 7 0 frame.Syn2 (passed 20)
    ∷ follows 7 0 frame.Syn3 (no_place_free 20)
    ∷ follows 7 999 frame.Syn3 (no_place_free 20)
    ∷ follows 7 1000 frame.Syn3 (passed 20)
    -- "M8 readings 1,000,000, 0, 500"
    ∷ begins 8 1000000 frame.Syn1 (passed 20)
    ∷ follows 8 0 frame.Ether0806 (passed 30)
    ∷ follows 8 500 frame.Ether0806 (passed 30)
    -- "M9 A with destination port 68: 2, rule 40, no event; with 1024: 6, UDP event naming rule 10."
    ∷ begins 9 0 frame.Port68 (blocked 40)
    ∷ follows 9 0 frame.Port1024 (mismatch_udp 10)
    -- "M10 13 bytes: 1; 17 bytes tagged: 1; 1,518 judged; 1,519: 2."
    ∷ begins 10 1 frame.First13 (Refused 1)
    ∷ follows 10 2 frame.Tagged17 (Refused 1)
    ∷ follows 10 3 frame.Longest (passed 10)
    ∷ follows 10 4 frame.TooLong (Refused 2)
    -- "M11 A and an 0x0806 frame at one reading, both orders"
    ∷ begins 11 500 frame.A (passed 10)
    ∷ follows 11 500 frame.Ether0806 (passed 30)
    ∷ begins 11 500 frame.Ether0806 (passed 30)
    ∷ follows 11 500 frame.A (passed 10)
    ∷ []

-- what stands beyond the last line: no example
abbrev pub no_line : Line
no_line = follows 0 0 frame.A (Refused 0)
