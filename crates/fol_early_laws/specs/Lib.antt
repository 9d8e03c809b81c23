pub mod EarlyBegins
