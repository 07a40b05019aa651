use Rattle.journal_text.specs.Words.{index}
use Rattle.journal_text.specs.Entries.{call_words, reply_words}
use Rattle.journal_text.proofs.Pieces.{line_adds}
use Rattle.journal_text.proofs.printing.line.Goals as goal

pub returns : goal.returns
returns c =
    line_adds c.args.out.now.items c.index_digits.new.out.items c.call.new.out.items c.word.new.out.items c.reply.new.out.items c.push.new.self.items (index c.args.entry.now.caller) (call_words c.args.entry.now.call) (reply_words c.args.entry.now.reply) c.in_ok-index_digits.ensures c.in_ok-call.ensures c.in_ok-word.ensures c.in_ok-reply.ensures c.in_ok-push.ensures.items
