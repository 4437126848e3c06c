-- The part of a conversation that a packet belongs to: by the requests that were asked and by the packets before it, the nearest first.
use Rattle.std.specs.Prelude.{ℕ, suc, zero, Bool, true, false, not, List, [], ◌∷◌, Option, Some, None, slice_get, if◌then◌else◌}
use Rattle.git_names.specs.declared.object_format.Format.{Format}
use Rattle.git_pkt.specs.Packets.{Pkt, flush, delim, resp_end, payload, flushes}
use Rattle.git_pkt.specs.Splits.{Given}
use Rattle.git_msg.specs.Agents.{own_agent}
use Rattle.git_msg.specs.Asked.{Asked, ls_refs, fetch, object_info, done_in}
use Rattle.git_msg.specs.declared.agent.Agent.{Agent}
use Rattle.git_client.specs.declared.events.Ending.{Ending}
use Rattle.git_client.specs.declared.events.Ending.TheVariants.{ResponseEnd}

-- the constants of a conversation: the format of its object names, how each response ends, and the agent that the client names
pub record Terms : Type 0 where
  pub format : Format
  pub ending : Ending
  pub agent : Agent

abbrev pub terms_by : Agent → Format → Ending → Terms
terms_by agent format ending = record { format = format; ending = ending; agent = agent }

-- the constants where the client names this library's own agent
abbrev pub terms_of : Format → Ending → Terms
terms_of = terms_by own_agent

-- the constants of the same conversation in another format
abbrev pub in_format : Format → Terms → Terms
in_format format t = terms_by t.agent format t.ending

-- the packets of a list, the last one first, after those that were there before
abbrev pub nearest : List Given → List Pkt → List Pkt
nearest [] before = before
nearest (g ∷ gs) before = nearest gs (g.packet ∷ before)

abbrev pub is_zero : ℕ → Bool
is_zero zero = true
is_zero (suc n) = false

-- the packets of the advertisement: all up to the first flush, which is its last packet
abbrev pub advertisement_of : List Pkt → List Pkt
advertisement_of [] = []
advertisement_of (p ∷ before) =
    if is_zero (flushes before) then p ∷ advertisement_of before else advertisement_of before

-- the packets of a message so far: those since the last flush or response end
abbrev pub message_of : List Pkt → List Pkt
message_of [] = []
message_of (flush ∷ before) = []
message_of (resp_end ∷ before) = []
message_of (delim ∷ before) = delim ∷ message_of before
message_of (payload line ∷ before) = payload line ∷ message_of before

-- the packet before is the flush of a response, and a response end is expected after it
abbrev pub is_end_expected : Ending → List Pkt → Bool
is_end_expected ResponseEnd (flush ∷ before) = not (is_zero (flushes before))
is_end_expected _ _ = false

-- the parts of a conversation: the first packet, the rest of the advertisement, the response to ls-refs, the response to
-- a fetch with or without `done`, the response to object-info, and the response end
pub data Part : Type 0 where
  opening : Part
  advertisement : Part
  listing : Part
  sections : (done : Bool) → Part
  informing : Part
  closing : Part

-- the part that answers a request
abbrev pub answer_to : Option Asked → Option Part
answer_to None = None
answer_to (Some (ls_refs q)) = Some listing
answer_to (Some (fetch q)) = Some (sections (done_in q))
answer_to (Some (object_info q)) = Some informing

-- the part after this number of flushes
abbrev pub part_after : List Asked → ℕ → Option Part
part_after asked zero = Some advertisement
part_after asked (suc k) = answer_to (slice_get asked k)

-- the part of the packet after these; none if there is no request that it could answer
abbrev pub part_of : Terms → List Asked → List Pkt → Option Part
part_of terms asked [] = Some opening
part_of terms asked (p ∷ before) =
    if is_end_expected terms.ending (p ∷ before) then Some closing else part_after asked (flushes (p ∷ before))
