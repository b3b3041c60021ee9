pub mod OrderTests
