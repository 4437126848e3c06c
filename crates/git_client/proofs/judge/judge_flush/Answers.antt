use Rattle.std.proofs.Common.{◌≡◌, Bool, Ok, Err, ap, cond, refl, sym, ◌∙◌}
use Rattle.git_names.specs.declared.object_format.Format.{Format}
use Rattle.git_pkt.specs.Packets.{flush}
use Rattle.git_pkt.specs.declared.fault.Kind.TheVariants.{UnexpectedPacket}
use Rattle.git_msg.specs.declared.offers.Caps.{Caps}
use Rattle.git_client.specs.Events.{Gives, ended_by}
use Rattle.git_client.specs.Machine.Turns.{IsTurn, NotesAfter, phase_after, phase_after_response, phase_in, place_expected, content_after_flush}
use Rattle.git_client.specs.declared.events.Ending.{Ending}
use Rattle.git_client.specs.declared.events.Ending.TheVariants.{FlushOnly, ResponseEnd}
use Rattle.git_client.specs.declared.phase.Expected.{Expected}
use Rattle.git_client.specs.declared.phase.Expected.TheVariants.{Acknowledgments, Packfile, References, SizeLine, Sizes}
use Rattle.git_client.specs.declared.phase.LineContent.{LineContent}
use Rattle.git_client.specs.declared.phase.Turn.{Turn}
use Rattle.git_client.proofs.judge.judge_flush.Goals as goal

-- a flush that is allowed there ends the response
ends_response : (format : Format) (ending : Ending) (expected known : Expected) (caps : Caps) (content : LineContent) (turn : Turn) → expected ≡ known
    → content ≡ content_after_flush ending → phase_in turn ≡ phase_after_response ending
    → Gives format ending (place_expected caps format known) flush (ended_by ending) → NotesAfter known caps flush caps
    → phase_after ending known flush ≡ phase_after_response ending → IsTurn format ending expected caps flush content caps turn
ends_response format FlushOnly expected known caps content turn is stated_is turn_is gives notes next =
    rw (is, stated_is) (record { gives = gives; fits = tt; notes = notes; next = turn_is ∙ sym next })
ends_response format ResponseEnd expected known caps content turn is stated_is turn_is gives notes next =
    rw (is, stated_is) (record { gives = gives; fits = tt; notes = notes; next = turn_is ∙ sym next })

pub returns-in-References : goal.returns-in-References
returns-in-References c = record {
  turn = ends_response c.args.format c.args.ending c.args.expected References c.args.caps.now _ _ c.in-References.is
      c.after_flush.ensures.content c.after_flush.ensures.turn refl refl refl;
}

pub returns-else-announced : goal.returns-else-announced
returns-else-announced c = record {
  turn = ends_response c.args.format c.args.ending c.args.expected (Acknowledgments c.in-Acknowledgments.announced) c.args.caps.now _ _ c.in-Acknowledgments.is
      c.after_flush-in-Acknowledgments.ensures.content c.after_flush-in-Acknowledgments.ensures.turn
      (ap (λ (b : Bool). cond b (Err UnexpectedPacket) (Ok (ended_by c.args.ending))) c.if-announced.false) refl refl;
}

pub returns-in-Packfile : goal.returns-in-Packfile
returns-in-Packfile c = record {
  turn = ends_response c.args.format c.args.ending c.args.expected Packfile c.args.caps.now _ _ c.in-Packfile.is c.after_flush-in-Packfile.ensures.content
      c.after_flush-in-Packfile.ensures.turn refl refl refl;
}

pub returns-in-SizeLine : goal.returns-in-SizeLine
returns-in-SizeLine c = record {
  turn = ends_response c.args.format c.args.ending c.args.expected SizeLine c.args.caps.now _ _ c.in-SizeLine.is c.after_flush-in-SizeLine.ensures.content
      c.after_flush-in-SizeLine.ensures.turn refl refl refl;
}

pub returns-in-Sizes : goal.returns-in-Sizes
returns-in-Sizes c = record {
  turn = ends_response c.args.format c.args.ending c.args.expected Sizes c.args.caps.now _ _ c.in-Sizes.is c.after_flush-in-Sizes.ensures.content
      c.after_flush-in-Sizes.ensures.turn refl refl refl;
}
