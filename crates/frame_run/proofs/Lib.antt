mod Simply
mod Courses
mod Files
pub mod Whole
mod Closing
mod Found
mod EventLoop
mod Loops
mod StepTasks
mod CommandReading
