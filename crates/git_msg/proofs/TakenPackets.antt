-- The result of a packet, from the lines to the packets.
use Rattle.std.proofs.Common.{◌≡◌, Option, Some, None, Ok, Err, List, [], ◌∷◌, ◌++◌, refl, sym, ap, ◌∙◌, subst, inl, inr, rules}
use Rattle.git_pkt.specs.Splits.{Given}
use Rattle.git_pkt.specs.declared.fault.Fault.{Fault}
use Rattle.git_pkt.specs.declared.fault.Kind.{Kind}
use Rattle.git_msg.specs.declared.arguments.Command.TheVariants.{LsRefs}
use Rattle.git_msg.specs.declared.offers.Offer.{Offer}
use Rattle.git_msg.specs.declared.reader.Part.{Part}
use Rattle.git_msg.specs.declared.reader.Part.TheVariants.{Capabilities, Failed as FailedPart}
use Rattle.git_msg.specs.declared.reader.ReadGot.TheVariants.{More, Request, Stop, Failed}
use Rattle.git_msg.specs.declared.reader.RequestReader.{RequestReader}
use Rattle.git_msg.specs.declared.reader.Taken.{Taken}
use Rattle.git_msg.specs.Admission.{IsAnnouncedFor, IsBarred, IsUnbarred}
use Rattle.git_msg.specs.Arguments.{Arg}
use Rattle.git_msg.specs.Lines.{IsLine}
use Rattle.git_msg.specs.Machine.HeldRequest.{IsBounded, IsEmpty, asked_of, command_of, kept_of}
use Rattle.git_msg.specs.Machine.RequestReader.{Brings, InCapabilities, InLines, IsBrought, Takes}
use Rattle.git_msg.specs.Machine.RequestReader.{fault_in, fault_of, limit_in}
use Rattle.git_msg.specs.Machine.RequestReaderSteps.{Goes, IsFree, StepsOn}
use Rattle.git_msg.specs.Requests.{AreLines, Asks}
use Rattle.git_msg.proofs.Admission.{barred_after}
use Rattle.git_msg.proofs.BoundedRequests.{one_bound}
use Rattle.git_msg.proofs.LineLists.{lines_snoc}

fresh : {A : Type 0} (r : RequestReader A) → r.part ≡ Capabilities → InCapabilities [] r → Takes [] r
fresh r part h = record { lines = []; taken = tt; in_part = subst (λ (x : Part). InLines x [] r) (sym part) h }

-- no fault has come
pub no_fault : (part : Part) → ((fault : Fault) → part ≡ FailedPart fault → ⊥) → fault_in part ≡ None
no_fault (FailedPart fault) other = absurd (other fault refl)
no_fault part other = refl

module _ {A : Type 0} (barred : Arg → Option Kind) (old new : RequestReader A) (g : Given) where
  module _ (packets : List Given) (t : Takes packets old) (offer : new.offer ≡ old.offer) (limit : limit_in new ≡ limit_in old) where
    front_lines : AreLines new.offer (limit_in new) [] packets t.lines
    front_lines = rw (offer, limit) t.taken

    unbarred : IsFree barred t.lines old g.packet → IsUnbarred new.offer (limit_in new) barred (packets ++ g ∷ [])
    unbarred free kind place b =
        let there = barred_after new.offer (limit_in new) barred (packets ++ g ∷ []) packets g t.lines kind place refl front_lines b in
        free kind (subst (λ (o : Offer). IsBarred o barred t.lines g.packet kind) offer there.is_barred)

    nothing_before : (gs : List Given) → AreLines old.offer (limit_in old) [] gs [] → gs ≡ []
    nothing_before [] h = refl
    nothing_before (g ∷ gs) h = absurd h

    further : Goes barred t.lines old g.packet (Ok Taken.More) new → IsBrought barred (packets ++ g ∷ []) More new
    further h =
        let line : IsLine new.offer (limit_in new) t.lines g.packet h.line = rw (offer, limit) h.is_line in
        let all = lines_snoc new.offer (limit_in new) [] packets t.lines g h.line front_lines line in
        (record { lines = t.lines ++ h.line ∷ []; taken = all; in_part = h.in_lines }, (t.lines ++ h.line ∷ [], all), unbarred h.free)

    asks : Goes barred t.lines old g.packet (Ok Taken.Whole) new
        → Asks new.offer (limit_in new) (packets ++ g ∷ []) (asked_of new.request) (kept_of new.request)
    asks h = record {
      front = packets;
      last = g;
      lines = t.lines;
      command = command_of new.request;
      whole = refl;
      ends = h.ends;
      taken = front_lines;
      once = h.once;
      checks = rw offer h.checks;
      asked_is = h.asked;
      kept_is = h.kept;
    }

    stops : Goes barred t.lines old g.packet (Ok Taken.Stop) new → IsBrought barred (packets ++ g ∷ []) Stop new
    stops h = search (rules, fresh, nothing_before)

    announced : (kind : Kind) → Goes barred t.lines old g.packet (Err kind) new
        → IsAnnouncedFor new.offer (limit_in new) barred (packets ++ g ∷ []) (record { kind = kind; offset = g.offset })
    announced kind (inl b) =
        inl (record { front = packets; last = g; lines = t.lines; whole = refl; taken = front_lines; is_barred = rw offer b; at = refl })
    announced kind (inr (free, inl fault)) = inr (
      unbarred free,
      inl (record {
        front = packets;
        at = g;
        back = [];
        items = t.lines;
        whole = refl;
        taken = front_lines;
        why = record { fault = rw (offer, limit) fault; offset_is = refl };
      }),
    )
    announced kind (inr (free, inr lacks)) = inr (
      unbarred free,
      inr (record {
        front = packets;
        last = g;
        lines = t.lines;
        line = lacks.line;
        whole = refl;
        taken = front_lines;
        is_line = rw (offer, limit) lacks.is_line;
        needs_memory = lacks.needs_memory;
        name = lacks.name;
        at = refl;
      }),
    )

  -- a step over a line
  pub takes_more : fault_of old ≡ None → StepsOn barred old g.packet (Ok Taken.More) new → Brings barred old g More new
  takes_more sound h = record {
    brings = λ packets t. further packets t h.offer h.limit (h.goes t.lines t.in_part);
    leaves = h.leaves;
    stays = λ fault announced. absurd (let none = sound in cc);
    offer = h.offer;
    limit = h.limit;
    within = new.bounded.within;
  }

  -- a step over the flush that ends a request, which is then handed out
  pub takes_whole : (next : RequestReader A) → fault_of old ≡ None → StepsOn barred old g.packet (Ok Taken.Whole) new
      → InCapabilities [] next → next.part ≡ Capabilities → next.offer ≡ new.offer → IsEmpty LsRefs new.offer.format (limit_in new) next.request
      → Brings barred old g (Request new.request) next
  takes_whole next sound h begins part offer empty = record {
    brings = λ packets t. (
      fresh next part begins,
      rw (offer, empty.limit_is) (asks packets t h.offer h.limit (h.goes t.lines t.in_part)),
      new.bounded.of_format ∙ ap (λ (o : Offer). o.format) (sym offer),
    );
    leaves = ap fault_in part;
    stays = λ fault announced. absurd (let none = sound in cc);
    offer = offer ∙ h.offer;
    limit = empty.limit_is ∙ h.limit;
    within = (sym empty.limit_is, rw empty.limit_is new.bounded.within, empty.kept);
  }

  -- a step over a flush with nothing before it
  pub takes_stop : fault_of old ≡ None → StepsOn barred old g.packet (Ok Taken.Stop) new → Brings barred old g Stop new
  takes_stop sound h = record {
    brings = λ packets t. stops packets t h.offer h.limit (h.goes t.lines t.in_part);
    leaves = h.leaves;
    stays = λ fault announced. absurd (let none = sound in cc);
    offer = h.offer;
    limit = h.limit;
    within = new.bounded.within;
  }

  -- a step that refuses the packet
  pub takes_err : (kind : Kind) (bounded : IsBounded new.offer new.request) → fault_of old ≡ None → StepsOn barred old g.packet (Err kind) new
      → Brings barred old g (Failed (record { kind = kind; offset = g.offset }))
      (record new { part = FailedPart (record { kind = kind; offset = g.offset }); bounded = bounded })
  takes_err kind bounded sound h = record {
    brings = λ packets t. announced packets t h.offer h.limit kind (h.goes t.lines t.in_part);
    leaves = ap (λ (b : IsBounded new.offer new.request).
        record new { part = FailedPart (record { kind = kind; offset = g.offset }); bounded = b }) (one_bound new.offer new.request bounded new.bounded)
        ∙ ap (λ (r : RequestReader A). record r { part = FailedPart (record { kind = kind; offset = g.offset }) }) h.leaves;
    stays = λ fault announced. absurd (let none = sound in cc);
    offer = h.offer;
    limit = h.limit;
    within = bounded.within;
  }

-- a reader that has failed stays as it is
pub takes_no_more : {A : Type 0} (barred : Arg → Option Kind) (r : RequestReader A) (g : Given) (fault : Fault) → r.part ≡ FailedPart fault
    → Brings barred r g (Failed fault) r
takes_no_more barred r g fault part = record {
  brings = λ packets t. absurd (subst (λ (x : Part). InLines x t.lines r) part t.in_part);
  leaves = ap (λ (x : Part). record r { part = x }) part;
  stays = λ other announced. let is : fault_of r ≡ Some fault = ap fault_in part in cc;
  offer = refl;
  limit = refl;
  within = r.bounded.within;
}
