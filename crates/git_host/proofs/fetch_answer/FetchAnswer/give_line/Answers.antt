use Rattle.std.proofs.Common.{arith, List, slice_get, codes, refl, sym, ap, ◌∙◌, subst}
use Rattle.git_names.specs.ObjectName.{ObjectName}
use Rattle.git_pkt.specs.Packets.{delim}
use Rattle.git_msg.specs.Asked.{want_refs_in}
use Rattle.git_msg.specs.WrittenRequest.{text_line}
use Rattle.git_msg.specs.ResponseLines.{boundary_text, wanted_of, wanted_text}
use Rattle.git_server.specs.Packs.{packfile_header}
use Rattle.git_server.specs.FetchAnswers.{boundary_packet}
use Rattle.git_host.specs.FetchPlaces.{StandsAt}
use Rattle.git_host.specs.declared.fetch_answer.Place.{Place}
use Rattle.git_host.proofs.FetchMoves.{after_all_wanted, after_pack_header, after_shallow_line, after_wanted}
use Rattle.git_host.proofs.FetchMoves.{after_wanted_header, item_there, line_held}
use Rattle.git_host.proofs.fetch_answer.FetchAnswer.give_line.Goals as goal

pub returns-in-ShallowLine : goal.returns-in-ShallowLine
returns-in-ShallowLine g c t given h =
    let q = c.args.self.now.request.asked in
    let at = subst (λ (p : Place). StandsAt p q t given) c.in-ShallowLine.is h.stands in
    record {
      packet = boundary_packet c.in-ShallowLine.line;
      held = line_held _ (boundary_text c.in-ShallowLine.line) c.put_boundary.ensures.written c.put_boundary.ensures.fits;
      same = record { request = refl; format = refl; wanted = refl };
      holds = record { wanted = h.wanted; all = h.all; sound = h.sound; stands = after_shallow_line q t given c.in-ShallowLine.line at };
    }

pub returns-in-WantedHeader : goal.returns-in-WantedHeader
returns-in-WantedHeader g c t given h =
    let q = c.args.self.now.request.asked in
    let at = subst (λ (p : Place). StandsAt p q t given) c.in-WantedHeader.is h.stands in
    record {
      packet = text_line (codes "wanted-refs");
      held = line_held _ (codes "wanted-refs") c.put_line.ensures.written c.put_line.ensures.fits;
      same = record { request = refl; format = refl; wanted = refl };
      holds = record { wanted = h.wanted; all = h.all; sound = h.sound; stands = after_wanted_header q t given at };
    }

pub returns-in-PackHeader : goal.returns-in-PackHeader
returns-in-PackHeader g c t given h =
    let q = c.args.self.now.request.asked in
    let at = subst (λ (p : Place). StandsAt p q t given) c.in-PackHeader.is h.stands in
    record {
      packet = packfile_header;
      held = line_held _ (codes "packfile") c.put_line-in-PackHeader.ensures.written c.put_line-in-PackHeader.ensures.fits;
      same = record { request = refl; format = refl; wanted = refl };
      holds = record { wanted = h.wanted; all = h.all; sound = h.sound; stands = after_pack_header q t given at };
    }

pub returns-in-Wanted : goal.returns-in-Wanted
returns-in-Wanted g c t given h =
    let q = c.args.self.now.request.asked in
    let next = c.in-Wanted.next in
    let at = subst (λ (p : Place). StandsAt p q t given) c.in-Wanted.is h.stands in
    let (name, named) = item_there (want_refs_in q) next at.0 in
    let (id, here) = item_there t.wanted next (omega (arith, at.0, h.all)) in
    record {
      packet = text_line (wanted_text (wanted_of id name));
      held = c.put_found.ensures name id named (ap (λ (ids : List ObjectName). slice_get ids next) (c.as_slice.ensures.value ∙ sym h.wanted) ∙ here);
      same = record { request = refl; format = refl; wanted = refl };
      holds = record {
        wanted = h.wanted;
        all = h.all;
        sound = h.sound;
        stands = after_wanted c.after_wanted-self.result next q t given id name c.after_wanted-self.ensures.more c.after_wanted-self.ensures.over
            at named here;
      };
    }

pub returns-in-WantedEnd : goal.returns-in-WantedEnd
returns-in-WantedEnd g c t given h =
    let q = c.args.self.now.request.asked in
    let at = subst (λ (p : Place). StandsAt p q t given) c.in-WantedEnd.is h.stands in
    record {
      packet = delim;
      held = record { spelled = c.put-in-WantedEnd.ensures; fits = omega arith };
      same = record { request = refl; format = refl; wanted = refl };
      holds = record { wanted = h.wanted; all = h.all; sound = h.sound; stands = after_all_wanted q t given h.all at };
    }
