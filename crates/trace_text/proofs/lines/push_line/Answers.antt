use Rattle.std.proofs.Common.{false}
use Rattle.trace_text.proofs.Printable.{text_printable}
use Rattle.trace_text.proofs.Printed.{process_again, restart_again, session_again, system_again, turn_again}
use Rattle.trace_text.proofs.lines.push_line.Goals as goal

pub returns-in_err-push_numbered-in-Session-clause-again : goal.returns-in_err-push_numbered-in-Session-clause-again
returns-in_err-push_numbered-in-Session-clause-again c = rw c.in-Session.is (λ may. session_again false _ _ (text_printable c.in-Session.text (rw c.bytes-typed.ensures.bytes at c.bytes-typed.ensures.text)) may.0 may.1)

pub returns-in_ok-push_numbered-in-Session-clause-again : goal.returns-in_ok-push_numbered-in-Session-clause-again
returns-in_ok-push_numbered-in-Session-clause-again c = rw c.in-Session.is (λ may. session_again false _ _ (text_printable c.in-Session.text (rw c.bytes-typed.ensures.bytes at c.bytes-typed.ensures.text)) may.0 may.1)

pub returns-in-Turn-clause-again : goal.returns-in-Turn-clause-again
returns-in-Turn-clause-again c = λ _. rw c.in-Turn.is (turn_again false _ (rw c.bytes.ensures.bytes at c.bytes.ensures.name))

pub returns-in-Process-clause-again : goal.returns-in-Process-clause-again
returns-in-Process-clause-again c = rw c.in-Process.is (λ may. process_again false _ _ _ (rw c.bytes-in-Process.ensures.bytes at c.bytes-in-Process.ensures.name) may.0 may.1)

pub returns-in-System-clause-again : goal.returns-in-System-clause-again
returns-in-System-clause-again c = rw c.in-System.is (system_again _)

pub returns-in-Restart-clause-again : goal.returns-in-Restart-clause-again
returns-in-Restart-clause-again c = λ _. rw c.in-Restart.is (restart_again false)
