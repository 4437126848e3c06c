-- An answer that passes, a chunk at a time.
use Rattle.std.proofs.Common.{arith, ◌≡◌, ◌≢◌, ℕ, ◌+◌, ◌≤◌, true, false, List, [], ◌∷◌, ◌++◌, length, take, None, Some}
use Rattle.std.proofs.Common.{inl, refl, ap, subst, append-nil}
use Rattle.git_pkt.specs.Packets.{Pkt, flush, delim, resp_end, payload}
use Rattle.git_pkt.specs.Splits.{Given}
use Rattle.git_pkt.specs.Machine.PacketReader.{Reads, ReadsOn, fault_of, is_open, open_length, position_of}
use Rattle.git_pkt.specs.declared.fault.Fault.{Fault}
use Rattle.git_pkt.specs.declared.fault.Kind.TheVariants.{Truncated}
use Rattle.git_pkt.specs.declared.reader.PacketReader.{PacketReader}
use Rattle.git_pkt.proofs.KnownRest.{rest_length, sound_rest}
use Rattle.git_pkt.proofs.Chunks.{joined}
use Rattle.git_msg.proofs.StreamSteps.{rest_behind, stopped_by}
use Rattle.git_client.specs.declared.events.Ending.{Ending}
use Rattle.git_client.specs.declared.events.Ending.TheVariants.{FlushOnly, ResponseEnd}
use Rattle.git2show_lib.specs.Others.{AreCutOff, is_last, last_of}
use Rattle.git2show_lib.specs.Machine.OtherAnswers.{BreaksOff, HasPassed, Passes}
use Rattle.git2show_lib.proofs.ChunkParts.{left_bytes}
use Rattle.git2show_lib.proofs.OtherLines.{none_snoc}

-- ---- the last packet

pub last_is : (ending : Ending) (p : Pkt) → is_last ending p ≡ true → p ≡ last_of ending
last_is FlushOnly flush e = refl
last_is FlushOnly delim e = absurd (cc)
last_is FlushOnly resp_end e = absurd (cc)
last_is FlushOnly (payload bytes) e = absurd (cc)
last_is ResponseEnd flush e = absurd (cc)
last_is ResponseEnd delim e = absurd (cc)
last_is ResponseEnd resp_end e = refl
last_is ResponseEnd (payload bytes) e = absurd (cc)

pub not_last : (ending : Ending) (p : Pkt) → is_last ending p ≡ false → p ≢ last_of ending
not_last FlushOnly flush e same = cc
not_last FlushOnly delim e same = cc
not_last FlushOnly resp_end e same = cc
not_last FlushOnly (payload bytes) e same = cc
not_last ResponseEnd flush e same = cc
not_last ResponseEnd delim e same = cc
not_last ResponseEnd resp_end e same = cc
not_last ResponseEnd (payload bytes) e same = cc

-- ---- a chunk

module _ (ending : Ending) (old new : PacketReader) (used u : List ℕ) (h : Passes ending used old) where
  -- a packet that is not the last one passes
  pub passes_packet : (g : Given) → ReadsOn old u (g ∷ []) new → is_last ending g.packet ≡ false → Passes ending (used ++ u) new
  passes_packet g reads other =
      let (rest, stream) = reads 0 used h.given h.rest h.reads in
      record {
        given = h.given ++ g ∷ [];
        rest = rest;
        reads = stream;
        goes_on = none_snoc (last_of ending) h.given g h.goes_on (not_last ending g.packet other);
      }

  -- or the last one
  pub passed_whole : (g : Given) → ReadsOn old u (g ∷ []) new → is_last ending g.packet ≡ true → fault_of new ≡ None → is_open new ≡ false
      → HasPassed ending (used ++ u) new
  passed_whole g reads last sound shut =
      let (rest, stream) = reads 0 used h.given h.rest h.reads in
      let none = rest_behind new (used ++ u) (h.given ++ g ∷ []) rest sound shut stream in
      let all : Reads new 0 (used ++ u) (h.given ++ g ∷ []) [] =
      subst (λ (bytes : List ℕ). Reads new 0 (used ++ u) (h.given ++ g ∷ []) bytes) none stream in
      record {
        answer = record {
          given = h.given ++ g ∷ [];
          splits = all.splits;
          ends = record { front = h.given; last = g; parts = refl; none_before = h.goes_on; is_last = last_is ending g.packet last };
        };
        position = omega (arith, all.position);
      }

  -- or what is no packet
  pub breaks_there : (fault : Fault) → ReadsOn old u [] new → fault_of new ≡ Some fault → fault.kind ≢ Truncated → BreaksOff ending (used ++ u) fault
  breaks_there fault reads announced other =
      let (rest, stream) = reads 0 used h.given h.rest h.reads in
      let all : Reads new 0 (used ++ u) h.given rest =
      subst (λ (gs : List Given). Reads new 0 (used ++ u) gs rest) (append-nil h.given) stream in
      record {
        rest = rest;
        begun = record { given = h.given; splits = all.splits; goes_on = h.goes_on };
        breaks = inl (record { stops = stopped_by new (used ++ u) h.given rest fault announced all; not_the_end = other });
      }

-- the input ends there
pub cut_there : (old : PacketReader) (used : List ℕ) (given : List Given) (rest : List ℕ) (fault : Fault) → Reads old 0 used given rest
    → fault_of old ≡ None → fault.kind ≡ Truncated → fault.offset + open_length old ≡ position_of old → AreCutOff rest (length used) fault
cut_there old used given rest fault reads sound kind at =
    let (held, still_open) = sound_rest old 0 used given rest sound reads in
    record { still_open = still_open; kind = kind; at = omega (arith, at, rest_length old rest held, reads.position) }

-- between two packets
pub cut_between : (old : PacketReader) (used : List ℕ) (given : List Given) (rest : List ℕ) (fault : Fault) → Reads old 0 used given rest
    → fault_of old ≡ None → fault.kind ≡ Truncated → is_open old ≡ false → fault.offset ≡ position_of old → AreCutOff rest (length used) fault
cut_between old used given rest fault reads sound kind shut at =
    let none = rest_behind old used given rest sound shut reads in
    record {
      still_open = (sound_rest old 0 used given rest sound reads).1;
      kind = kind;
      at = omega (arith, at, ap length none, reads.position);
    }

-- ---- a chunk that is used in part

module _ (ending : Ending) (first mid : PacketReader) (chunk : List ℕ) (done : ℕ) (within : done ≤ length chunk)
    (so_far : (bytes : List ℕ) → Passes ending bytes first → Passes ending (bytes ++ take done chunk) mid) where
  -- what some more of it means for all bytes
  pub passes_further : (Holds : List ℕ → Type 0) (more : ℕ)
      → ((bytes : List ℕ) → Passes ending bytes mid → Holds (bytes ++ take more (left_bytes chunk done)))
      → (bytes : List ℕ) → Passes ending bytes first → Holds (bytes ++ take (done + more) chunk)
  passes_further Holds more on bytes h = subst Holds (joined bytes chunk done more within) (on (bytes ++ take done chunk) (so_far bytes h))
